mod Few
mod Spelled
mod Prelude
