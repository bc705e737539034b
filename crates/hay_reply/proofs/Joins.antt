-- What is written piece by piece is the whole text.
use Rattle.std.proofs.Common.{◌≡◌, ◌++◌, List, ℕ, append_assoc}

pub join_three : (out head space text : List ℕ) → ((out ++ head) ++ space) ++ text ≡ out ++ ((head ++ space) ++ text)
join_three out head space text = simp append_assoc
