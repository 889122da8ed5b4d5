mod Owing
mod Rereading
