pub mod Common
pub mod OneLine
pub mod CauseTexts
pub mod RowTexts
pub mod MissedRows
pub mod UnmetTexts
pub mod CauseLists
pub mod CauseOrder
