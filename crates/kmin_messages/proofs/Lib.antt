pub mod FittingSteps
pub mod WholeTexts
pub mod PlainTexts
pub mod SafeBytes
pub mod WriterSteps
pub mod OneLine
pub mod ObjectLines
