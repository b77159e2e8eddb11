-- Objects as the reader takes them: what they represent is defined in `schema_rows`.
pub mod Shapes
pub mod Depths
pub mod Objects
