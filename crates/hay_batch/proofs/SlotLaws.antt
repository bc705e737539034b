-- The disks of a store that are opened in order.
use Rattle.std.proofs.Common.{◌≡◌, ◌≢◌, ◌⊎◌, inl, inr, ◌<◌, ◌≤◌, ◌+◌, ℕ, zero, suc, List, [], ◌∷◌, ◌++◌, length, refl, sym, ap, subst, ◌∙◌, arith, length-append}
use Rattle.std.specs.Prelude.{slice_set}
use Rattle.std.proofs.lemmas.Bool.{cases_eq, cases_lt}
use Rattle.hay_needle.specs.declared.settings.Settings.{Settings}
use Rattle.hay_disk.specs.Disk.{Files}
use Rattle.hay_volume.specs.declared.volume.VolumeFile.{VolumeFile}
use Rattle.hay_open.specs.declared.fault.OpenFault.{OpenFault}
use Rattle.hay_batch.specs.declared.fault.LoadOpenFault.{LoadOpenFault}
use Rattle.hay_batch.specs.Faults.{not_opened}
use Rattle.hay_batch.specs.declared.opening.OpenJournal.{OpenJournal}
use Rattle.hay_batch.specs.Openings.{OpensDirectory, OpensReplica}
use Rattle.hay_batch.specs.Replicas.{At}
use Rattle.hay_batch.specs.Shelves.{place_super}
use Rattle.hay_batch.specs.Slots.{IsSoundJournal, MovesDisks, MovesFiles, OpensDisks, OpensFile, OpensFiles, OpensJournal, RefusesDisks, RefusesFile, RefusesFiles, RefusesOne}
use Rattle.hay_batch.proofs.Lists.{at_below, at_either, at_same, at_set_other, at_set_same, at_there, length-slice_set}

-- The disks up to slot n were opened, but for the first, and the others are as they were.
pub record FilesFirst {D : Type 0} (Tells : Type 0) (files : D → Files) (faults fuses : D → ℕ) (settings : Settings) (n : ℕ) (old new : List D) (volumes : List VolumeFile) : Type 0 where
  pub many : length volumes + 1 ≡ n
  pub count : length new ≡ length old
  pub first : (d d' : D) → At old 0 d → At new 0 d' → d' ≡ d
  pub done : (place : ℕ) (d d' : D) (volume : VolumeFile) → place + 1 < n → At old (place + 1) d → At new (place + 1) d' → At volumes place volume
      → OpensFile Tells files faults fuses (place_super settings place) d d' volume
  pub rest : (i : ℕ) (d d' : D) → n ≤ i → At old i d → At new i d' → d' ≡ d

module _ {D : Type 0} (Tells : Type 0) (files : D → Files) (faults fuses : D → ℕ) (settings : Settings) where
  pub files_none : (disks : List D) (volumes : List VolumeFile) → volumes ≡ [] → FilesFirst Tells files faults fuses settings 1 disks disks volumes
  files_none disks volumes none = record {
    many = (let e = ap (λ (l : List VolumeFile). length l) none in omega (arith, e));
    count = refl;
    first = λ d d' at at'. at_same disks 0 d' d at' at;
    done = λ place d d' volume below at at' there. absurd (omega (arith, below));
    rest = λ i d d' from at at'. at_same disks i d' d at' at;
  }

  -- what the next disk was
  pub files_was : (n : ℕ) (old new : List D) (volumes : List VolumeFile) (d : D) → FilesFirst Tells files faults fuses settings n old new volumes → At new n d → At old n d
  files_was n old new volumes d f at =
      let below = at_below new n d at in
      let less : n < length old = omega (arith, below, f.count) in
      let there = at_there old n less in
      let e : n ≤ n = omega arith in
      subst (λ z. At old n z) (sym (f.rest n there.0 d e there.1 at)) there.1

  pub files_more : (n place : ℕ) (old new : List D) (volumes more : List VolumeFile) (d d' : D) (volume : VolumeFile) → n ≡ place + 1
      → FilesFirst Tells files faults fuses settings n old new volumes → At new n d
      → OpensFile Tells files faults fuses (place_super settings place) d d' volume → more ≡ volumes ++ volume ∷ [] → FilesFirst Tells files faults fuses settings (n + 1) old (slice_set new n d') more
  files_more n place old new volumes more d d' volume next f at opens longer =
      let was = files_was n old new volumes d f at in
      let below = at_below new n d at in
      record {
        many = (let e = ap (λ (l : List VolumeFile). length l) longer ∙ length-append volumes (volume ∷ []) in omega (arith, e, f.many));
        count = length-slice_set new n d' ∙ f.count;
        first = λ a b at0 bt0. f.first a b at0 (let apart : 0 ≢ n = omega (arith, next) in sym (at_set_other new 0 n d' apart) ∙ bt0);
        done = λ k a b w low aa bb ww. elim (cases_lt k place) [
          | inl less ↦
              let apart : k + 1 ≢ n = omega (arith, less, next) in
              let under : k + 1 < n = omega (arith, less, next) in
              elim (at_either volumes volume k w (subst (λ (l : List VolumeFile). At l k w) longer ww)) [
                | inl h ↦ f.done k a b w under aa (sym (at_set_other new (k + 1) n d' apart) ∙ bb) h
                | inr h ↦ absurd (let e = h.0 in omega (arith, e, f.many, less, next))
              ]
          | inr most ↦
              let same : k ≡ place = omega (arith, low, most, next) in
              let here : k + 1 ≡ n = omega (arith, same, next) in
              let a_is : a ≡ d = at_same old n a d (subst (λ i. At old i a) here aa) was in
              let b_is : b ≡ d' = at_same (slice_set new n d') n b d' (subst (λ i. At (slice_set new n d') i b) here bb) (at_set_same new n d' below) in
              elim (at_either volumes volume k w (subst (λ (l : List VolumeFile). At l k w) longer ww)) [
                | inl h ↦ absurd (let e = at_below volumes k w h in omega (arith, e, f.many, same, next))
                | inr h ↦
                    subst (λ i. OpensFile Tells files faults fuses (place_super settings i) a b w) (sym same)
                    (subst (λ z. OpensFile Tells files faults fuses (place_super settings place) z b w) (sym a_is)
                    (subst (λ z. OpensFile Tells files faults fuses (place_super settings place) d z w) (sym b_is)
                    (subst (λ z. OpensFile Tells files faults fuses (place_super settings place) d d' z) (sym h.1) opens)))
              ]
        ];
        rest = λ i a b from aa bb.
            let apart : i ≢ n = omega (arith, from) in
            let later : n ≤ i = omega (arith, from) in
            f.rest i a b later aa (sym (at_set_other new i n d' apart) ∙ bb);
      }

  pub files_all : (n : ℕ) (old new : List D) (volumes : List VolumeFile) → FilesFirst Tells files faults fuses settings n old new volumes → n ≡ length old
      → OpensFiles Tells files faults fuses settings old new volumes
  files_all n old new volumes f all = record {
    count = f.many ∙ all;
    each = λ place d d' volume at at' there. f.done place d d' volume (let below = at_below old (place + 1) d at in omega (arith, below, all)) at at' there;
  }

  -- where the next disk is not opened
  pub files_refused : (n place : ℕ) (old new : List D) (volumes : List VolumeFile) (d d' : D) (fault : OpenFault) (told : LoadOpenFault) → n ≡ place + 1
      → FilesFirst Tells files faults fuses settings n old new volumes → At new n d
      → RefusesFile Tells files faults fuses (place_super settings place) d d' fault → told ≡ not_opened n fault → RefusesOne Tells files faults fuses settings old (slice_set new n d') told
  files_refused n place old new volumes d d' fault told next f at refuses is =
      let below = at_below new n d at in
      record {
        place = place;
        before = d;
        after = d';
        was = subst (λ i. At old i d) next (files_was n old new volumes d f at);
        is = subst (λ i. At (slice_set new n d') i d') next (at_set_same new n d' below);
        fault = fault;
        tells = is ∙ ap (λ i. not_opened i fault) next;
        refused = refuses;
        earlier = λ tells i a b low aa bb.
            let apart : i + 1 ≢ n = omega (arith, low, next) in
            let there = at_there volumes i (let less : i < length volumes = omega (arith, low, next, f.many) in less) in
            (f.done i a b there.0 (omega (arith, low, next)) aa (sym (at_set_other new (i + 1) n d' apart) ∙ bb) there.1).sound tells;
      }

  moved_one : (n : ℕ) (old new : List D) (volumes : List VolumeFile) → FilesFirst Tells files faults fuses settings n old new volumes → (place : ℕ) (a b : D) → At old (place + 1) a
      → At new (place + 1) b → (b ≡ a) ⊎ OpensReplica Tells files faults fuses a b
  moved_one n old new volumes f place a b aa bb = elim (cases_lt (place + 1) n) [
    | inl less ↦
        let there = at_there volumes place (let low : place < length volumes = omega (arith, less, f.many) in low) in
        inr (f.done place a b there.0 less aa bb there.1).disk
    | inr most ↦ inl (f.rest (place + 1) a b most aa bb)
  ]

  pub files_moved : (n : ℕ) (old new : List D) (volumes : List VolumeFile) → FilesFirst Tells files faults fuses settings n old new volumes → MovesFiles Tells files faults fuses old new
  files_moved n old new volumes f = record { count = f.count; first = f.first; others = moved_one n old new volumes f }

  pub files_stopped : (n : ℕ) (old new : List D) (volumes : List VolumeFile) (d d' : D) → 0 < n → FilesFirst Tells files faults fuses settings n old new volumes → At new n d
      → OpensReplica Tells files faults fuses d d'
      → MovesFiles Tells files faults fuses old (slice_set new n d')
  files_stopped n old new volumes d d' some f at moves =
      let was = files_was n old new volumes d f at in
      let below = at_below new n d at in
      record {
        count = length-slice_set new n d' ∙ f.count;
        first = λ a b at0 bt0. f.first a b at0 (let apart : 0 ≢ n = omega (arith, some) in sym (at_set_other new 0 n d' apart) ∙ bt0);
        others = λ place a b aa bb. elim (cases_eq (place + 1) n) [
          | inl here ↦
              let a_is : a ≡ d = at_same old n a d (subst (λ i. At old i a) here aa) was in
              let b_is : b ≡ d' = at_same (slice_set new n d') n b d' (subst (λ i. At (slice_set new n d') i b) here bb) (at_set_same new n d' below) in
              inr (subst (λ z. OpensReplica Tells files faults fuses z b) (sym a_is) (subst (λ z. OpensReplica Tells files faults fuses d z) (sym b_is) moves))
          | inr apart ↦ moved_one n old new volumes f place a b aa (sym (at_set_other new (place + 1) n d' apart) ∙ bb)
        ];
      }

-- what holds of each disk behind the first
pub behind_first : {D : Type 0} (Q : D → Type 0) (disks : List D) (n : ℕ) (d : D) → 0 < n → ((place : ℕ) (e : D) → At disks (place + 1) e → Q e) → At disks n d → Q d
behind_first Q disks zero d some each at = absurd (omega (arith, some))
behind_first Q disks (suc n) d some each at = each n d (let e : suc n ≡ n + 1 = omega arith in subst (λ i. At disks i d) e at)

-- THE FIRST DISK, AND THE OTHERS

module _ {D : Type 0} (Tells : Type 0) (files : D → Files) (faults fuses : D → ℕ) (settings : Settings) (old new : List D) (x : D) where
  back : (place : ℕ) (d : D) → At (slice_set old 0 x) (place + 1) d → At old (place + 1) d
  back place d at = let apart : place + 1 ≢ 0 = omega arith in sym (at_set_other old (place + 1) 0 x apart) ∙ at

  ahead : (place : ℕ) (d : D) → At old (place + 1) d → At (slice_set old 0 x) (place + 1) d
  ahead place d at = let apart : place + 1 ≢ 0 = omega arith in at_set_other old (place + 1) 0 x apart ∙ at

  first_is : 0 < length old → MovesFiles Tells files faults fuses (slice_set old 0 x) new → (d' : D) → At new 0 d' → d' ≡ x
  first_is some moves d' at = moves.first x d' (at_set_same old 0 x some) at

  pub all_moved : (d : D) → At old 0 d → OpensDirectory Tells files faults fuses d x → MovesFiles Tells files faults fuses (slice_set old 0 x) new → MovesDisks Tells files faults fuses old new
  unfolding ahead first_is
  all_moved d there opens moves = record {
    count = moves.count ∙ length-slice_set old 0 x;
    first = λ a b at at'.
        let a_is : a ≡ d = at_same old 0 a d at there in
        let b_is : b ≡ x = first_is (at_below old 0 d there) moves b at' in
        subst (λ z. OpensDirectory Tells files faults fuses z b) (sym a_is) (subst (λ z. OpensDirectory Tells files faults fuses d z) (sym b_is) opens);
    others = λ place a b at at'. moves.others place a b (ahead place a at) at';
  }

  pub all_opened : (d : D) (kept : OpenJournal) (volumes : List VolumeFile) → At old 0 d → OpensJournal Tells files faults fuses settings d x kept
      → MovesFiles Tells files faults fuses (slice_set old 0 x) new
      → OpensFiles Tells files faults fuses settings (slice_set old 0 x) new volumes → OpensDisks Tells files faults fuses settings old new kept volumes
  unfolding ahead first_is
  all_opened d kept volumes there opens moves each = record {
    count = moves.count ∙ length-slice_set old 0 x;
    first = λ a b at at'.
        let a_is : a ≡ d = at_same old 0 a d at there in
        let b_is : b ≡ x = first_is (at_below old 0 d there) moves b at' in
        subst (λ z. OpensJournal Tells files faults fuses settings z b kept) (sym a_is) (subst (λ z. OpensJournal Tells files faults fuses settings d z kept) (sym b_is) opens);
    others = record {
      count = each.count ∙ length-slice_set old 0 x;
      each = λ place a b volume at at' v. each.each place a b volume (ahead place a at) at' v;
    };
  }

  pub all_refused : (d : D) (told : LoadOpenFault) → At old 0 d → (Tells → IsSoundJournal files settings d x) → MovesFiles Tells files faults fuses (slice_set old 0 x) new
      → RefusesFiles Tells files faults fuses settings (slice_set old 0 x) new told → RefusesDisks Tells files faults fuses settings old new told
  unfolding back ahead first_is
  all_refused d told there sound moves (inl memory) = inl memory
  all_refused d told there sound moves (inr one) = inr (inr (record {
    first = λ tells a b at at'.
        let a_is : a ≡ d = at_same old 0 a d at there in
        let b_is : b ≡ x = first_is (at_below old 0 d there) moves b at' in
        subst (λ z. IsSoundJournal files settings z b) (sym a_is) (subst (λ z. IsSoundJournal files settings d z) (sym b_is) (sound tells));
    one = record {
      place = one.place;
      before = one.before;
      after = one.after;
      was = back one.place one.before one.was;
      is = one.is;
      fault = one.fault;
      tells = one.tells;
      refused = one.refused;
      earlier = λ tells i a b low at at'. one.earlier tells i a b low (ahead i a at) at';
    };
  }))
