-- lemmas of this crate alone

-- the characters escaped so far, and one more
mod Escapes
