pub mod Scarce
