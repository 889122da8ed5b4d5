mod Drawing
mod Keeps
mod Marks
