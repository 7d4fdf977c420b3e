pub mod Common
pub mod Ink
pub mod Numbers
pub mod FittingValues
pub mod OrderedTrees
pub mod SolutionsFit
pub mod AssignedTexts
pub mod SelectedMembers
pub mod HiddenSymbols
pub mod RowTrees
mod TristateRows
mod ImplyRows
mod TextRows
mod ChoiceRows
mod DependencyRows
