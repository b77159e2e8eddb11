pub mod NamedValues
