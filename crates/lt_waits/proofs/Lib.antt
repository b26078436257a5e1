mod ToldToWait
mod Latest
mod Callers
mod Lost
mod Example
