mod Memories
mod Overwriting
