pub mod MissedLines
pub mod MissedCauses
pub mod UnmetLines
pub mod checker
