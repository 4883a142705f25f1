pub mod ImageCounts
pub mod Images
pub mod ImageCalls
pub mod Encoding
pub mod LentImages
pub mod Lent
