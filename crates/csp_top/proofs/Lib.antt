mod CausalWorlds
mod Generated
mod OpeningNumbers
mod Owing
mod Prefix
mod Untaken
mod Reported
