pub mod ParseHeader
