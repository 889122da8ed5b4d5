mod Counts
mod Digits
mod LastLines
mod LinesBack
mod Parts
mod SentLines
mod Told
