pub mod CollapsedAll
