pub mod LentList
pub mod ListLaws
