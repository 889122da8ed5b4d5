mod HeadLemmas
mod NumberLemmas
mod OptionLemmas
