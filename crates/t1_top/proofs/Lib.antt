pub mod Lives
pub mod Commands
pub mod Headlines
