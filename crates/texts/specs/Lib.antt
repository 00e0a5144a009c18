pub mod ParseAndTransformPaths
pub mod ParseHeader
pub mod PrintActiveSubgraph
pub mod PrintTransformations
pub mod ReadGfa
