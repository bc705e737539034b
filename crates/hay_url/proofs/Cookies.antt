-- Two worked cookies.
use Rattle.std.specs.Prelude.{◌≡◌, replicate, refl}
use Rattle.rand_chacha.specs.Block.{block_word, double_rounds, diagonal_round, quarter_round, column_round}
use Rattle.rand_core.specs.Steps.{u32_at}
use Rattle.hay_url.specs.Url.{cookie_of}

pub cookie_of-zero : cookie_of (replicate 32 0) 0 ≡ record { 0 = 0x903df1a0ade0b876 }
unfolding block_word double_rounds diagonal_round quarter_round column_round u32_at
cookie_of-zero = refl

pub cookie_of-large : cookie_of (replicate 32 0) 144115188075855872 ≡ record { 0 = 0x3736d58c374dc6c2 }
unfolding block_word double_rounds diagonal_round quarter_round column_round u32_at
cookie_of-large = refl
