-- What a call that fails leaves of a side.
use Rattle.std.proofs.Common.{◌≡◌, ℕ, zero, suc, ◌+◌, ◌-◌, ◌≤◌, Bool, true, false, not, ◌&&◌, cond, List, [], ◌∷◌, ◌++◌, length, take, drop, map, Option, Some, None, refl, sym}
use Rattle.std.proofs.Common.{ap, ◌∙◌, append_assoc, length-append, length-drop, ◌⊎◌, inl, inr, subst, arith, rules}
use Rattle.std.proofs.lemmas.Bool.{and_parts, false≢true, true≢false, and_right}
use Rattle.hay_needle.specs.declared.needle.Pair.{Pair}
use Rattle.hay_needle.specs.declared.needle.Row.{Row}
use Rattle.hay_core.specs.declared.machine.Side.{Side}
use Rattle.hay_core.specs.declared.machine.Work.{Work}
use Rattle.hay_core.specs.declared.machine.Work.TheVariants as work
use Rattle.hay_core.specs.declared.entry.Logged.{Logged}
use Rattle.hay_core.specs.declared.calls.Effect.{Effect}
use Rattle.hay_core.specs.declared.calls.Effect.TheVariants.{Quiet, Doubts, Settles, MarksRows, SettlesRows, Repeats, Makes, Copies}
use Rattle.hay_core.specs.declared.calls.Harm.{Harm}
use Rattle.hay_core.specs.declared.calls.Harm.TheVariants.{Freezes, Fails, Ends, GoesOn}
use Rattle.hay_core.specs.declared.calls.DeviceCall.{DeviceCall}
use Rattle.hay_core.specs.declared.machine.Hold.{Hold}
use Rattle.hay_core.specs.Spots.{spot_in}
use Rattle.hay_needle.specs.Tables.{look, rows_of}
use Rattle.hay_core.specs.Entries.{rows_after}
use Rattle.hay_core.specs.Sides.{made, broken, next_progress, after_failed, after_harm}
use Rattle.hay_core.specs.Calls.{call_of}
use Rattle.hay_core.specs.Transitions.{change_of}
use Rattle.hay_core.specs.Goodness.{Shows, with_change, settled_change, DoubtGood, CopyGood, CopyFits, SideGood, SideFits, SideHeld, HeldGood, is_deleted, is_deleting, settles, IsSure}
use Rattle.hay_core.proofs.DeviceLaws.{stays_mapped, settled_ok}
use Rattle.hay_core.proofs.CalmLaws.{harms, harm_fits, is_calm, is_again, is_quiet, changes}
use Rattle.hay_core.proofs.SideLaws.{Grows, broken_stays, EffectGood, call_good}

broken_table : (p : Pair) (rows : List Row) (l : Option Logged) (s : Side) (e : Effect) → look (rows_of s.current) p ≡ look (with_change (settled_change s.settled l) rows) p
    → look (rows_of (broken e s).current) p ≡ look (with_change (settled_change (broken e s).settled l) rows) p
broken_table p rows l s Quiet h = h
broken_table p rows l s (Doubts d) h = h
broken_table p rows l s (Settles d) h = h
broken_table p rows l s MarksRows h = h
broken_table p rows l s SettlesRows h = h
broken_table p rows l s (Repeats q) h = h
broken_table p rows l s Makes h = h
broken_table p rows l s (Copies x) h = h

broken_doubt : (p : Pair) (l : Option Logged) (s : Side) (e : Effect) → EffectGood p l s e → DoubtGood p l s.fresh s.current s.doubt
    → DoubtGood p l (broken e s).fresh (broken e s).current (broken e s).doubt
broken_doubt p l s Quiet good h = h
broken_doubt p l s (Doubts d) good h = good
broken_doubt p l s (Settles d) good h = h
broken_doubt p l s MarksRows good h = h
broken_doubt p l s SettlesRows good h = h
broken_doubt p l s (Repeats q) good h = h
broken_doubt p l s Makes good h = h
broken_doubt p l s (Copies x) good h = h

broken_copy : (p : Pair) (s : Side) (e : Effect) → CopyGood p s.fresh s.current s.copy → CopyGood p (broken e s).fresh (broken e s).current (broken e s).copy
broken_copy p s Quiet h = h
broken_copy p s (Doubts d) h = h
broken_copy p s (Settles d) h = h
broken_copy p s MarksRows h = h
broken_copy p s SettlesRows h = h
broken_copy p s (Repeats q) h = tt
broken_copy p s Makes h = h
broken_copy p s (Copies x) h = h

broken_bounds : (s : Side) (e : Effect) → s.rows ≤ s.most → s.most ≤ length s.current → CopyFits (length s.current) s.copy
    → ((broken e s).rows ≤ (broken e s).most) × ((broken e s).most ≤ length (broken e s).current) × CopyFits (length (broken e s).current) (broken e s).copy
broken_bounds s Quiet a b c = (a, b, c)
broken_bounds s (Doubts d) a b c = (a, b, c)
broken_bounds s (Settles d) a b c = (a, b, c)
broken_bounds s MarksRows a b c = (omega arith, omega arith, c)
broken_bounds s SettlesRows a b c = (a, b, c)
broken_bounds s (Repeats q) a b c = (a, b, tt)
broken_bounds s Makes a b c = (a, b, c)
broken_bounds s (Copies x) a b c = (a, b, c)

-- all of a side but its copy
pub record SideHurt (p : Pair) (up : Bool) (log : List Logged) (l : Option Logged) (s : Side) : Type 0 where
  pub tabled : look (rows_of s.current) p ≡ look (with_change (settled_change s.settled l) (rows_after log s.base)) p
  pub mapped : s.is_open ≡ true → Shows s (spot_in s.spots p) (look (rows_after (cond up log []) s.base) p)
  pub opened : up ≡ false → s.is_open ≡ true → look (rows_of s.current) p ≡ look s.base p
  pub doubted : DoubtGood p l s.fresh s.current s.doubt

pub hurt_of : (p : Pair) (up : Bool) (log : List Logged) (l : Option Logged) (o : Option Hold) (s : Side) → SideGood p up log l o s → SideHurt p up log l s
hurt_of p up log l o s g = record { tabled = g.tabled; mapped = g.mapped; opened = g.opened; doubted = g.doubted }

pub good_of : (p : Pair) (up : Bool) (log : List Logged) (l : Option Logged) (o : Option Hold) (s : Side) → SideHurt p up log l s
    → (is_deleted o p s ≡ false → CopyGood p s.fresh s.current s.copy) → SideGood p up log l o s
good_of p up log l o s g copied = record { tabled = g.tabled; mapped = g.mapped; opened = g.opened; doubted = g.doubted; copied = copied }

-- with other values of the copy and the turn
pub hurt_again : (p : Pair) (up : Bool) (log : List Logged) (l : Option Logged) (s : Side) (copy progress : Option ℕ) → SideHurt p up log l s
    → SideHurt p up log l (record s { copy = copy; progress = progress })
hurt_again p up log l s copy progress g = record { tabled = g.tabled; mapped = g.mapped; opened = g.opened; doubted = g.doubted }

broken_hurt : (up : Bool) → up ≡ true → (p : Pair) (log : List Logged) (l : Option Logged) (o : Option Hold) (s : Side) (e : Effect) → EffectGood p l s e → SideGood p up log l o s
    → SideHurt p up log l (broken e s)
broken_hurt up is_up p log l o s e good g =
    let stays = broken_stays e s in
    let P : List Row → Type 0 = λ base. look (rows_of (broken e s).current) p ≡ look (with_change (settled_change (broken e s).settled l) (rows_after log base)) p in
    record {
      tabled = subst P (sym stays.grows.base) (broken_table p (rows_after log s.base) l s e g.tabled);
      mapped = stays_mapped s (broken e s) p (cond up log []) stays g.mapped;
      opened = λ down. absurd (true≢false (sym is_up ∙ down));
      doubted = broken_doubt p l s e good g.doubted;
    }

pub side_hurt : (up : Bool) → up ≡ true → (p : Pair) (log : List Logged) (h : Hold) (s : Side) (c : DeviceCall) → call_of h.work s ≡ Some c
    → SideGood p up log (change_of h.tag h.work) (Some h) s → SideHurt p up log (change_of h.tag h.work) (after_failed h.work c s)
side_hurt up is_up p log h s c e g =
    let l = change_of h.tag h.work in
    let live : is_deleting h.work p s ≡ false → CopyGood p s.fresh s.current s.copy = λ f. g.copied (and_right (not h.failed) (is_deleting h.work p s) f) in
    let hurt = broken_hurt up is_up p log l (Some h) s c.effect (call_good p h.tag h.work s s.progress c live e) g in
    go c.harm hurt
  where
    go : (x : Harm) → SideHurt p up log (change_of h.tag h.work) (broken c.effect s) → SideHurt p up log (change_of h.tag h.work) (after_harm h.work x c.effect s)
    go Freezes hurt = hurt
    go Fails hurt = hurt
    go Ends hurt = hurt_again p up log (change_of h.tag h.work) (broken c.effect s) None (broken c.effect s).progress hurt
    go GoesOn hurt = hurt_again p up log (change_of h.tag h.work) (broken c.effect s) (broken c.effect s).copy (next_progress h.work c.effect s.progress) hurt

pub not_deleting : (w : Work) (p : Pair) (s : Side) → changes w ≡ false → is_deleting w p s ≡ false
not_deleting (work.Put pair photo) p s f = refl
not_deleting (work.Del q) p s f = absurd (true≢false f)
not_deleting (work.Flush side) p s f = refl
not_deleting (work.Start side) p s f = refl
not_deleting (work.Step side cells) p s f = refl
not_deleting (work.Finish side) p s f = refl

-- the copy of a side where the holding fails alone, and where it goes on
pub harm_copy : (p : Pair) (w : Work) (e : Effect) (s : Side) (x : Harm) → CopyGood p s.fresh s.current s.copy
    → CopyGood p (after_harm w x e s).fresh (after_harm w x e s).current (after_harm w x e s).copy
harm_copy p w e s Freezes h = broken_copy p s e h
harm_copy p w e s Fails h = broken_copy p s e h
harm_copy p w e s Ends h = tt
harm_copy p w e s GoesOn h = broken_copy p s e h

again_copy : (p : Pair) (s : Side) (e : Effect) → is_again e ≡ true → CopyGood p (broken e s).fresh (broken e s).current (broken e s).copy
again_copy p s Quiet f = absurd (false≢true f)
again_copy p s (Doubts d) f = absurd (false≢true f)
again_copy p s (Settles d) f = absurd (false≢true f)
again_copy p s MarksRows f = absurd (false≢true f)
again_copy p s SettlesRows f = absurd (false≢true f)
again_copy p s (Repeats q) f = tt
again_copy p s Makes f = absurd (false≢true f)
again_copy p s (Copies x) f = absurd (false≢true f)

-- a failed repeat ends the copy, and a failed removal leaves it
pub on_copy : (p : Pair) (w : Work) (s : Side) (e : Effect) → (b : Bool) → changes w ≡ b → cond b (is_again e) (is_quiet e) ≡ true
    → (is_deleting w p s ≡ false → CopyGood p s.fresh s.current s.copy) → CopyGood p (broken e s).fresh (broken e s).current (broken e s).copy
on_copy p w s e true is f h = again_copy p s e f
on_copy p w s e false is f h = broken_copy p s e (h (not_deleting w p s is))

on_settled : (b : Bool) (e : Effect) (s : Side) → cond b (is_again e) (is_quiet e) ≡ true → (made e s).settled ≡ true → (broken e s).settled ≡ true
on_settled true (Repeats q) s f h = h
on_settled true Quiet s f h = h
on_settled true (Doubts d) s f h = absurd (false≢true f)
on_settled true (Settles d) s f h = absurd (false≢true f)
on_settled true MarksRows s f h = absurd (false≢true f)
on_settled true SettlesRows s f h = absurd (false≢true f)
on_settled true Makes s f h = absurd (false≢true f)
on_settled true (Copies x) s f h = absurd (false≢true f)
on_settled false Quiet s f h = h
on_settled false (Repeats q) s f h = absurd (false≢true f)
on_settled false (Doubts d) s f h = absurd (false≢true f)
on_settled false (Settles d) s f h = absurd (false≢true f)
on_settled false MarksRows s f h = absurd (false≢true f)
on_settled false SettlesRows s f h = absurd (false≢true f)
on_settled false Makes s f h = absurd (false≢true f)
on_settled false (Copies x) s f h = absurd (false≢true f)

-- the counts behind a call that fails
harm_bounds : (w : Work) (e : Effect) (s : Side) (x : Harm) → s.rows ≤ s.most → s.most ≤ length s.current → CopyFits (length s.current) s.copy
    → ((after_harm w x e s).rows ≤ (after_harm w x e s).most) × ((after_harm w x e s).most ≤ length (after_harm w x e s).current)
    × CopyFits (length (after_harm w x e s).current) (after_harm w x e s).copy
harm_bounds w e s Freezes a b c = broken_bounds s e a b c
harm_bounds w e s Fails a b c = broken_bounds s e a b c
harm_bounds w e s Ends a b c = let h = broken_bounds s e a b c in (h.0, h.1, tt)
harm_bounds w e s GoesOn a b c = broken_bounds s e a b c

harm_open : (w : Work) (e : Effect) (s : Side) (x : Harm) → (after_harm w x e s).is_open ≡ s.is_open
harm_open w e s Freezes = (broken_stays e s).is_open
harm_open w e s Fails = (broken_stays e s).is_open
harm_open w e s Ends = (broken_stays e s).is_open
harm_open w e s GoesOn = (broken_stays e s).is_open

pub side_fits_failed : (up : Bool) (h : Hold) (o : Option Hold) (s : Side) (c : DeviceCall) → call_of h.work s ≡ Some c → SideFits up (Some h) s
    → HeldGood o (after_failed h.work c s) → SideFits up o (after_failed h.work c s)
side_fits_failed up h o s c e fits held =
    let bounds = harm_bounds h.work c.effect s c.harm fits.rows fits.most fits.copy in
    record { is_open = λ is. harm_open h.work c.effect s c.harm ∙ fits.is_open is; rows = bounds.0; most = bounds.1; copy = bounds.2; held = held }

pub held_on : (h : Hold) (s : Side) (c : DeviceCall) → c.harm ≡ GoesOn → call_of h.work s ≡ Some c → h.failed ≡ false → HeldGood (Some h) s → HeldGood (Some h) (after_failed h.work c s)
held_on h s c is e ok held failed =
    let fits : harm_fits (changes h.work) c.harm c.effect ≡ true = harms h.work s s.progress c e in
    let P : Harm → Type 0 = λ x. harm_fits (changes h.work) x c.effect ≡ true → SideHeld h (after_harm h.work x c.effect s) in
    let on : P GoesOn = λ f. record {
      settled = λ behind. on_settled (changes h.work) c.effect s f (settled_ok h.work s s.progress c e (held ok).settled behind);
      all_made = λ out. let none = (held ok).all_made out in absurd cc;
    } in
    subst P (sym is) on fits

-- a call that fails and leaves no doubt
broken_sure : (e : Effect) (s : Side) → is_calm e ≡ true → IsSure s → IsSure (broken e s)
broken_sure Quiet s f h = h
broken_sure (Doubts d) s f h = absurd (false≢true f)
broken_sure (Settles d) s f h = h
broken_sure MarksRows s f h = h
broken_sure SettlesRows s f h = h
broken_sure (Repeats q) s f h = h
broken_sure Makes s f h = h
broken_sure (Copies x) s f h = h

again_sure : (b : Bool) (e : Effect) (s : Side) → cond b (is_again e) (is_quiet e) ≡ true → IsSure s → IsSure (broken e s)
again_sure true (Doubts d) s f h = absurd (false≢true f)
again_sure false (Doubts d) s f h = absurd (false≢true f)
again_sure b Quiet s f h = h
again_sure b (Settles d) s f h = h
again_sure b MarksRows s f h = h
again_sure b SettlesRows s f h = h
again_sure b (Repeats q) s f h = h
again_sure b Makes s f h = h
again_sure b (Copies x) s f h = h

-- where a failed call does not freeze the volume, it makes no doubt sure and sets none
pub harm_sure : (b : Bool) (w : Work) (e : Effect) (s : Side) (x : Harm) → (x ≡ Freezes → ⊥) → harm_fits b x e ≡ true → IsSure s → IsSure (after_harm w x e s)
harm_sure b w e s Freezes not f h = absurd (not refl)
harm_sure b w e s Fails not f h = broken_sure e s (and_parts (Rattle.std.proofs.Common.not b) (is_calm e) f).1 h
harm_sure b w e s Ends not f h = broken_sure e s (and_parts (Rattle.std.proofs.Common.not b) (is_calm e) f).1 h
harm_sure b w e s GoesOn not f h = again_sure b e s f h

calm_settles : (e : Effect) → is_calm e ≡ true → settles e ≡ false
calm_settles Quiet f = refl
calm_settles (Doubts d) f = refl
calm_settles (Settles d) f = absurd (false≢true f)
calm_settles MarksRows f = refl
calm_settles SettlesRows f = refl
calm_settles (Repeats q) f = refl
calm_settles Makes f = refl
calm_settles (Copies x) f = refl

again_settles : (b : Bool) (e : Effect) → cond b (is_again e) (is_quiet e) ≡ true → settles e ≡ false
again_settles true (Settles d) f = absurd (false≢true f)
again_settles false (Settles d) f = absurd (false≢true f)
again_settles b Quiet f = refl
again_settles b (Doubts d) f = refl
again_settles b MarksRows f = refl
again_settles b SettlesRows f = refl
again_settles b (Repeats q) f = refl
again_settles b Makes f = refl
again_settles b (Copies x) f = refl

pub harm_settles : (b : Bool) (e : Effect) (x : Harm) → (x ≡ Freezes → ⊥) → harm_fits b x e ≡ true → settles e ≡ false
harm_settles b e Freezes not f = absurd (not refl)
harm_settles b e Fails not f = calm_settles e (and_parts (Rattle.std.proofs.Common.not b) (is_calm e) f).1
harm_settles b e Ends not f = calm_settles e (and_parts (Rattle.std.proofs.Common.not b) (is_calm e) f).1
harm_settles b e GoesOn not f = again_settles b e f

-- a side that fails goes on showing what it showed
pub failed_grows : (w : Work) (c : DeviceCall) (s : Side) → Grows s (after_failed w c s)
failed_grows w c s = go c.harm
  where
    go : (x : Harm) → Grows s (after_harm w x c.effect s)
    go Freezes = (broken_stays c.effect s).grows
    go Fails = (broken_stays c.effect s).grows
    go Ends = let g = (broken_stays c.effect s).grows in record { base = g.base; shows = g.shows }
    go GoesOn = let g = (broken_stays c.effect s).grows in record { base = g.base; shows = g.shows }
