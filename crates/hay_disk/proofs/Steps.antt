-- One step of a file after another, as one step.
use Rattle.std.proofs.Common.{◌≡◌, inl, inr, ◌≤◌, ◌+◌, ◌-◌, ℕ, List, length, take, drop, sym, ◌∙◌, ap, arith}
use Rattle.std.proofs.lemmas.List.{take-take, drop-drop}
use Rattle.hay_disk.specs.Disk.{FileState, Files, Changes, Keeps, Seals, IsSolid, IsOutside, KeepsOthers}

-- no step at all
pub keeps_same : (a b : FileState) → b ≡ a → Keeps a b
keeps_same a b same = record {
  now = ap (λ (file : FileState). file.now) same;
  solid = λ k was. ap (λ (file : FileState). file.loose k) same ∙ was;
  free = λ k was. ap (λ (file : FileState). file.sealed k) same ∙ was;
  shortest = omega (arith, ap (λ (file : FileState). file.shortest) same);
  longest = omega (arith, ap (λ (file : FileState). file.longest) same);
}

pub keeps_keeps : (a b c : FileState) → Keeps a b → Keeps b c → Keeps a c
keeps_keeps a b c first second = record {
  now = second.now ∙ first.now;
  solid = λ k was. second.solid k (first.solid k was);
  free = λ k was. second.free k (first.free k was);
  shortest = omega arith;
  longest = omega arith;
}

pub changes_keeps : (at n : ℕ) (a b c : FileState) → Changes at n a b → Keeps b c → Changes at n a c
changes_keeps at n a b c first second = record {
  before = ap (λ (l : List ℕ). take at l) second.now ∙ first.before;
  after = ap (λ (l : List ℕ). drop (at + n) l) second.now ∙ first.after;
  grows = omega (arith, ap length second.now);
  no_further = omega (arith, ap length second.now);
  solid = λ k was out. second.solid k (first.solid k was out);
  free = λ k was. second.free k (first.free k was);
  shortest = omega arith;
  longest = omega arith;
}

pub keeps_changes : (at n : ℕ) (a b c : FileState) → Keeps a b → Changes at n b c → Changes at n a c
keeps_changes at n a b c first second = record {
  before = second.before ∙ ap (λ (l : List ℕ). take at l) first.now;
  after = second.after ∙ ap (λ (l : List ℕ). drop (at + n) l) first.now;
  grows = omega (arith, ap length first.now);
  no_further = omega (arith, ap length first.now);
  solid = λ k was out. second.solid k (first.solid k was) out;
  free = λ k was. second.free k (first.free k was);
  shortest = omega arith;
  longest = omega arith;
}

pub changes_changes : (at n : ℕ) (a b c : FileState) → Changes at n a b → Changes at n b c → Changes at n a c
changes_changes at n a b c first second = record {
  before = second.before ∙ first.before;
  after = second.after ∙ first.after;
  grows = omega arith;
  no_further = omega arith;
  solid = λ k was out. second.solid k (first.solid k was out) out;
  free = λ k was. second.free k (first.free k was);
  shortest = omega arith;
  longest = omega arith;
}

pub outside : (at n start count k : ℕ) → start ≤ at → at + n ≤ start + count → IsOutside start count k → IsOutside at n k
outside at n start count k low high (inl below) = inl (omega arith)
outside at n start count k low high (inr above) = inr (omega arith)

-- the same front, and so the same shorter front
pub fronts : (at start : ℕ) (old new : List ℕ) → start ≤ at → take at new ≡ take at old → take start new ≡ take start old
fronts at start old new low same = sym (take-take start at new low) ∙ ap (λ (l : List ℕ). take start l) same ∙ take-take start at old low

-- the same rest, and so the same shorter rest
pub rests : (at start : ℕ) (old new : List ℕ) → at ≤ start → drop at new ≡ drop at old → drop start new ≡ drop start old
rests at start old new low same =
    let split : at + (start - at) ≡ start = omega arith in
    ap (λ (n : ℕ). drop n new) (sym split) ∙ sym (drop-drop (start - at) at new) ∙ ap (λ (l : List ℕ). drop (start - at) l) same ∙ drop-drop (start - at) at old ∙ ap (λ (n : ℕ). drop n old) split

-- changes in a range lie in each wider one
pub changes_wider : (at n start count : ℕ) (a b : FileState) → start ≤ at → at + n ≤ start + count → Changes at n a b → Changes start count a b
changes_wider at n start count a b low high is = record {
  before = fronts at start a.now b.now low is.before;
  after = rests (at + n) (start + count) a.now b.now high is.after;
  grows = is.grows;
  no_further = omega arith;
  solid = λ k was out. is.solid k was (outside at n start count k low high out);
  free = is.free;
  shortest = is.shortest;
  longest = omega arith;
}

-- a change of no place at all, where nothing else was written
pub keeps_is_change : (at n : ℕ) (a b : FileState) → Keeps a b → Changes at n a b
keeps_is_change at n a b is = record {
  before = ap (λ (l : List ℕ). take at l) is.now;
  after = ap (λ (l : List ℕ). drop (at + n) l) is.now;
  grows = omega (arith, ap length is.now);
  no_further = omega (arith, ap length is.now);
  solid = λ k was out. is.solid k was;
  free = is.free;
  shortest = is.shortest;
  longest = omega arith;
}

-- what is solid stays solid where the bytes stay, and when a piece is given out
pub solid_keeps : (a b : FileState) → IsSolid a → Keeps a b → IsSolid b
solid_keeps a b solid is = record {
  places = λ k. is.solid k (solid.places k);
  shortest = omega (arith, ap length is.now, solid.shortest);
  longest = omega (arith, ap length is.now, solid.longest);
}

pub solid_seals : (at n hole : ℕ) (a b : FileState) → IsSolid a → Seals at n hole a b → IsSolid b
solid_seals at n hole a b solid is = record {
  places = λ k. is.solid k (solid.places k);
  shortest = omega (arith, ap length is.now, solid.shortest);
  longest = omega (arith, ap length is.now, solid.longest);
}

-- two calls that each leave all other files leave them together
pub others_others : (file : ℕ) (a b c : Files) → KeepsOthers file a b → KeepsOthers file b c → KeepsOthers file a c
others_others file a b c first second = λ other apart. second other apart ∙ first other apart
