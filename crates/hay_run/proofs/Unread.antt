-- A run that stopped at a restart has read something.
use Rattle.std.proofs.Common.{◌≡◌, ℕ, List, [], ◌∷◌, ◌++◌, length, Option, Some, refl, sym, ap, ◌∙◌, length-append, arith}
use Rattle.hay_script.specs.declared.Command.TheVariants as asks
use Rattle.hay_legal.specs.declared.turn.Item.TheVariants as item
use Rattle.hay_legal.specs.Items.{Asked, items_of}
use Rattle.hay_legal.specs.Items.Asked.{Alone}
use Rattle.hay_legal.specs.Statuses.{IsFront}
use Rattle.hay_cluster.specs.Store.{Open}
use Rattle.hay_run.specs.declared.stops.Stop.TheVariants as stop
use Rattle.hay_lines.specs.Stream.{rest_of}
use Rattle.hay_run.specs.Turns.{Standing, ServedUntil}
use Rattle.hay_run.proofs.Asking.{took_items_more}
use Rattle.hay_run.proofs.Reading.{front_read}

-- nothing asks for nothing
some_read : (read : List ℕ) (asked : List Asked) (one : Asked) → IsFront (asked ++ one ∷ []) (items_of read) → read ≡ [] → ⊥
some_read [] asked one front none =
    let many = ap length front.1 in
    absurd (omega (arith, many, length-append (asked ++ one ∷ []) front.0, length-append asked (one ∷ [])))
some_read (b ∷ read) asked one front none = cc

none_left : (read rest : List ℕ) → rest ≡ read ++ rest → read ≡ []
none_left [] rest is = refl
none_left (b ∷ read) rest is = absurd (omega (arith, ap length is, length-append (b ∷ read) rest))

pub was_read : {D P A : Type 0} (Tells : Type 0) (Begins Left : Standing D P A) (script : List ℕ) (left : Option (List ℕ)) (store store' : Open D P A) (written written' : Option (List ℕ))
    → ServedUntil Tells Begins Left stop.Store (Some script) store written left store' written' → left ≡ Some script → ⊥
was_read Tells Begins Left script left store store' written written' u still =
    let r = u.stops in
    let one = Alone u.number (item.Command (asks.Restart r.pick)) in
    let reads = front_read script (u.asked ++ one ∷ []) r.next left u.held r.ended
    (took_items_more 1 u.number r.next (Some script) u.rest (rest_of left u.held) u.asked (one ∷ []) r.ended u.took r.took) in
    let same : Some reads.rest ≡ Some script = sym reads.left_is ∙ still in
    let rest_is : reads.rest ≡ script = cc in
    some_read reads.read u.asked one reads.front (none_left reads.read reads.rest (rest_is ∙ reads.script_is))
