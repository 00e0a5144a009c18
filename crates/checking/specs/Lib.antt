pub mod CheckTransform
