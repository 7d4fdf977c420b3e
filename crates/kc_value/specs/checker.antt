pub mod TextsInQuotes
pub mod ByteBlocks
pub mod DigitStep
