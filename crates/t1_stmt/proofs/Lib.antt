pub mod Alike
pub mod ExprLists
