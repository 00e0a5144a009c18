pub mod Pathed
