mod Digits
mod Following
