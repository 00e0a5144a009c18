pub mod LinksKept
pub mod NodesKept
