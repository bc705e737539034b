use Rattle.std.proofs.Common.{◌≡◌, ℕ, List, Bool, Ok, Err, Some, sym, ap, subst, ◌∙◌}
use Rattle.std.specs.Prelude.{map, IfOk, Result}
use Rattle.hay_needle.specs.declared.settings.Settings.{Settings}
use Rattle.hay_reply.specs.declared.Note.{Note}
use Rattle.hay_legal.specs.Restarts.{replica_notes}
use Rattle.hay_logical.specs.declared.unsure.Unsure.{Unsure}
use Rattle.hay_logical.specs.Notes.{KeptIn, NotesTell}
use Rattle.hay_logical.specs.Seen.{ReplicaSeen, replica_seen}
use Rattle.hay_logical.specs.Sights.{Sights, sights_of}
use Rattle.hay_logical.proofs.notes.notes_of.Goals as goal

told : {E : Type 0} (settings : Settings) (number : ℕ) (unsure : Unsure) (sights : Sights) (replicas : List ReplicaSeen) (kept slice : List Bool)
    (r : Result (List Note) E) → slice ≡ kept → KeptIn unsure.change sights replicas kept
    → IfOk r (λ notes. notes ≡ replica_notes settings number (unsure.tag).line 0 slice) → IfOk r (NotesTell settings number (Some unsure) sights replicas)
told settings number unsure sights replicas kept slice (Ok notes) same is e = (kept, is, e ∙ ap (λ xs. replica_notes settings number (unsure.tag).line 0 xs) same)
told settings number unsure sights replicas kept slice (Err error) same is e = tt

pub returns-in-Some-clause-are : goal.returns-in-Some-clause-are
returns-in-Some-clause-are g c =
    let sights : Sights = sights_of c.args.rows.now in
    let replicas : List ReplicaSeen = map replica_seen c.args.replicas.now in
    subst (λ u. IfOk c.notes_from.result (NotesTell c.args.settings.now c.args.number u sights replicas)) (sym c.in-Some.is)
    (told c.args.settings.now c.args.number c.in-Some.unsure sights replicas c.kept_in-kept.result.items c.as_slice.result.now c.notes_from.result c.as_slice.ensures.value
    c.kept_in-kept.ensures c.notes_from.ensures.are)
