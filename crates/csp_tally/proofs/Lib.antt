mod Steps
mod Names
