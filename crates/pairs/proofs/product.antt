-- Laws of the rounded product.
pub mod Parts
