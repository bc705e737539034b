-- Parts of a box stand above one state.
use Rattle.std.proofs.Common.{◌≡◌, ℕ, ◌-◌, Bool, true, false, cond, List, [], ◌∷◌, ◌++◌, refl, sym, subst, flat_map, nat_lt}
use Rattle.std.specs.List.{AllByRecursion as Each}
use Rattle.hay_needle.specs.declared.settings.Settings.{Settings}
use Rattle.hay_legal.specs.declared.known.Known.{Known}
use Rattle.hay_audit_steps.specs.Boxes.{Box, above, slack_at, up_to}
use Rattle.hay_audit_steps.specs.Next.{is_least}
use Rattle.hay_audit_steps.specs.Rooms.{cut_at, least_need, replicas_at, room_cut, try_cuts, volume_cuts, where_end}
use Rattle.hay_audit.specs.Sizes.{VolumeMayGrow}

each_on : {X : Type 0} (P : X → Type 0) (xs ys : List X) → Each P xs → Each P ys → Each P (xs ++ ys)
each_on P [] ys h g = g
each_on P (x ∷ xs) ys h g = (h.0, each_on P xs ys h.1 g)

each_flat : {X Y : Type 0} (P : Y → Type 0) (f : X → List Y) (xs : List X) → Each (λ x. Each P (f x)) xs → Each P (flat_map f xs)
each_flat P f [] h = tt
each_flat P f (x ∷ xs) h = each_on P (f x) (flat_map f xs) h.0 (each_flat P f xs h.1)

each_to : {X : Type 0} (P Q : X → Type 0) (xs : List X) → ((x : X) → P x → Q x) → Each P xs → Each Q xs
each_to P Q [] step h = tt
each_to P Q (x ∷ xs) step h = (step x h.0, each_to P Q xs step h.1)

abbrev IsAbove : Known → Box → Type 0
IsAbove b d = d.base ≡ b

kept_base : (b : Known) (d : Box) (test : Bool) → d.base ≡ b → Each (IsAbove b) (cond test (d ∷ []) [])
kept_base b d true e = (e, tt)
kept_base b d false e = tt

where_base : (b : Known) (v j : ℕ) (d : Box) → d.base ≡ b → Each (IsAbove b) (where_end v j d)
where_base b v j d e = kept_base b d (is_least (slack_at d.low v j).end (slack_at d.high v j).end) e

either_base : (b : Known) (test : Bool) (xs ys : List Box) → Each (IsAbove b) xs → Each (IsAbove b) ys → Each (IsAbove b) (cond test xs ys)
either_base b true xs ys h g = h
either_base b false xs ys h g = g

room_base : (b : Known) (settings : Settings) (size v j : ℕ) (d : Box) → d.base ≡ b → Each (IsAbove b) (room_cut settings size v j d)
room_base b settings size v j d e =
    either_base b (nat_lt settings.capacity (least_need size v j d)) (d ∷ []) (cut_at v j (settings.capacity - least_need size v j d) d) (e, tt)
    (each_on (IsAbove b) (where_end v j (up_to d v j (settings.capacity - least_need size v j d))) (where_end v j (above d v j (settings.capacity - least_need size v j d)))
    (where_base b v j (up_to d v j (settings.capacity - least_need size v j d)) e) (where_base b v j (above d v j (settings.capacity - least_need size v j d)) e))

volume_base : (b : Known) (settings : Settings) (size v : ℕ) (js : List ℕ) (d : Box) → d.base ≡ b → Each (IsAbove b) (volume_cuts settings size v js d)
volume_base b settings size v [] d e = (e, tt)
volume_base b settings size v (j ∷ js) d e =
    each_flat (IsAbove b) (volume_cuts settings size v js) (room_cut settings size v j d)
    (each_to (IsAbove b) (λ x. Each (IsAbove b) (volume_cuts settings size v js x)) (room_cut settings size v j d) (λ x g. volume_base b settings size v js x g) (room_base b settings size v j d e))

tries_base : (b : Known) (settings : Settings) (size : ℕ) (tries : List ℕ) (d : Box) → d.base ≡ b → Each (IsAbove b) (try_cuts settings size tries d)
tries_base b settings size [] d e = (e, tt)
tries_base b settings size (v ∷ tries) d e =
    each_flat (IsAbove b) (try_cuts settings size tries) (volume_cuts settings size v (replicas_at d v) d)
    (each_to (IsAbove b) (λ x. Each (IsAbove b) (try_cuts settings size tries x)) (volume_cuts settings size v (replicas_at d v) d) (λ x g. tries_base b settings size tries x g)
    (volume_base b settings size v (replicas_at d v) d e))

pub parts_grow : (settings : Settings) (size : ℕ) (tries : List ℕ) (box : Box) (parts : List Box) → parts ≡ try_cuts settings size tries box → Each VolumeMayGrow box.base.volumes
    → Each (λ part. Each VolumeMayGrow part.base.volumes) parts
parts_grow settings size tries box parts is grow =
    subst (λ (ds : List Box). Each (λ part. Each VolumeMayGrow part.base.volumes) ds) (sym is)
    (each_to (IsAbove box.base) (λ part. Each VolumeMayGrow part.base.volumes) (try_cuts settings size tries box) (λ d e. subst (λ (k : Known). Each VolumeMayGrow k.volumes) (sym e) grow)
    (tries_base box.base settings size tries box refl))
