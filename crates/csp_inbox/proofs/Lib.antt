mod Closing
mod Drawing
mod Keeps
mod Marks
