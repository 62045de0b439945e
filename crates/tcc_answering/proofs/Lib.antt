-- Lemmas on what the judge says.
mod Judged
