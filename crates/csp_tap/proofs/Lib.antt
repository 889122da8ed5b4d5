mod Tables
mod Telling
mod Digits
mod Pieces
