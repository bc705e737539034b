use Rattle.std.proofs.Common.{◌<◌, ◌++◌, ◌∷◌, [], List, Option, length, ap, sym, ◌∙◌, arith}
use Rattle.hay_needle.specs.declared.needle.Needle.{Needle}
use Rattle.hay_core.specs.Sides.{photo_of}
use Rattle.hay_core.specs.Spots.{needle_at}
use Rattle.hay_core.proofs.SpotLaws.{needle_in_past, needle_in_current, needle_in_none, if_ok_same}
use Rattle.std.specs.Prelude.{slice_get}
use Rattle.hay_core.proofs.needles.photo_in.Goals as goal

pub returns-then-generation-past : goal.returns-then-generation-past
returns-then-generation-past c =
    let past = c.as_slice-past.result.now in
    let s = c.args.side.now in
    let g = c.args.generation in
    let n = c.args.number in
    let at = needle_in_past past s.current g n c.index-past-generation.result c.if-generation-past.true c.index-past-generation.is in
    let same = ap (λ (files : List (List Needle)). needle_at (files ++ s.current ∷ []) g n) c.as_slice-past.ensures in
    if_ok_same c.photo_at.result _ _
    (ap (λ (ns : List Needle). photo_of (slice_get ns n)) c.as_slice.ensures ∙ ap (λ (o : Option Needle). photo_of o) (sym at ∙ same)) c.photo_at.ensures

pub returns-then-generation-past-2 : goal.returns-then-generation-past-2
returns-then-generation-past-2 c =
    let s = c.args.side.now in
    let n = c.args.number in
    let at = needle_in_current s.past s.current c.args.generation n (c.if-generation-past-2.true ∙ ap (λ (files : List (List Needle)). length files) c.as_slice-past.ensures) in
    if_ok_same c.photo_at-then-generation-past-2.result _ _
    (ap (λ (ns : List Needle). photo_of (slice_get ns n)) c.as_slice-then-generation-past-2.ensures ∙ ap (λ (o : Option Needle). photo_of o) (sym at)) c.photo_at-then-generation-past-2.ensures

pub returns-else-generation-past-2 : goal.returns-else-generation-past-2
returns-else-generation-past-2 c =
    let s = c.args.side.now in
    let long = ap (λ (files : List (List Needle)). length files) c.as_slice-past.ensures in
    let over : length s.past < c.args.generation = omega (arith, long, c.if-generation-past.false, c.if-generation-past-2.false) in
    ap (λ (o : Option Needle). photo_of o) (sym (needle_in_none s.past s.current c.args.generation c.args.number over))
