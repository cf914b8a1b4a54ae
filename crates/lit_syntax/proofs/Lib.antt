pub mod ListLemmas
pub mod TreeViews
pub mod CountLemmas
