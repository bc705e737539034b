-- The options of words are those that the words spell.
use Rattle.std.proofs.Common.{◌≡◌, ◌∙◌, ◌||◌, ◌&&◌, ◌<◌, inl, inr, not, true, false, refl, sym, ap, subst, ℕ, zero, suc, Bool, List, [], ◌∷◌, ◌++◌, Option, Some, None, Result, Ok}
use Rattle.std.proofs.Common.{Err, true≢false, append_assoc, append-nil, length, arith}
use Rattle.std.specs.Prelude.{codes, cond, nat_le, IfOk, ◌==◌, unwrap_or, option_map, option_and_then}
use Rattle.std.specs.List.{list_all}
use Rattle.std.specs.Str.{bytes_eq}
use Rattle.std.proofs.lemmas.Slice.Eq.{bytes_eq-Decides}
use Rattle.std.proofs.lemmas.Bool.Decides.{Decides-eqb, nat_tests}
use Rattle.clap.specs.Lexer.{long_of, name_and_value, has_byte}
use Rattle.clap.proofs.CutLemmas.{Lacks}
use Rattle.clap.proofs.LexerLemmas.{name_and_value-at, name_and_value-without}
use Rattle.hay_cli.specs.Commands.{AreSettings, IsStore, number_or, secret_or, folder_passes, Text, Given, is_flag, is_named, has_option, AreOptions, run_names, audit_names, value_of, number_in, Says}
use Rattle.hay_cli.specs.Reading.{settings_by, value_met, option_met, options_from, options_of, settings_of, store_of, drill_of, mode_of}
use Rattle.hay_needle.specs.declared.settings.Settings.{Settings}
use Rattle.hay_needle.specs.declared.settings.TheConstants.{MAX_CAPACITY, MAX_MACHINES, MAX_REPLICAS, MAX_VOLUMES, MIN_CAPACITY, USUAL_CAPACITY}
use Rattle.hay_cli.specs.declared.Mode.{Mode}
use Rattle.hay_cli.specs.declared.Mode.TheVariants.{Run, Check, Load, Audit, Drill}
use Rattle.hay_cli.proofs.Folders.{some≢none, same_all}

-- ---- one option in its word

lacks_cons : (x : ℕ) (xs : Text) → (x == 61) ≡ false → Lacks 61 xs → Lacks 61 (x ∷ xs)
lacks_cons x xs e l zero lt = λ is. true≢false (sym ((Decides-eqb x 61).1 is) ∙ e)
lacks_cons x xs e l (suc i) lt = let next : i < length xs = omega arith in l i next

-- a text is cut at its first `=`, if it has one
data Cut (text : Text) : Type 0 where
  whole : Lacks 61 text → Cut text
  parts : (xs ys : Text) → Lacks 61 xs → text ≡ xs ++ 61 ∷ ys → Cut text

lacks_nil : Lacks 61 []
lacks_nil i lt = absurd (omega arith)

cut : (text : Text) → Cut text
cut [] = whole lacks_nil
cut (x ∷ xs) = go (x == 61) refl (cut xs)
  where
    go : (b : Bool) → (x == 61) ≡ b → Cut xs → Cut (x ∷ xs)
    go true e c = parts [] xs lacks_nil (ap (λ y. y ∷ xs) ((Decides-eqb x 61).0 e))
    go false e (whole l) = whole (lacks_cons x xs e l)
    go false e (parts a b l is) = parts (x ∷ a) b (lacks_cons x a e l) (ap (λ t. x ∷ t) is)

-- what stands behind the two hyphens
abbrev behind : Text → Option Text → Text
behind n None = n
behind n (Some v) = n ++ 61 ∷ v

text_back : (text : Text) → behind (name_and_value text).0 (name_and_value text).1 ≡ text
text_back text = go (cut text)
  where
    go : Cut text → behind (name_and_value text).0 (name_and_value text).1 ≡ text
    go (whole l) = ap (λ (p : Text × Option Text). behind p.0 p.1) (name_and_value-without text l)
    go (parts xs ys l is) = ap (λ (p : Text × Option Text). behind p.0 p.1) (ap name_and_value is ∙ name_and_value-at xs ys l) ∙ sym is

abbrev behind_of : Option (Text × Option Text) → Text
behind_of None = []
behind_of (Some p) = behind p.0 p.1

pub word_is : (word n : Text) (o : Option Text) → long_of word ≡ Some (n, o) → word ≡ codes "--" ++ behind n o
word_is [] n o e = absurd (some≢none e)
word_is (x ∷ []) n o e = go (x == 45) refl
  where
    go : (b : Bool) → (x == 45) ≡ b → x ∷ [] ≡ codes "--" ++ behind n o
    go true f = absurd (some≢none (rw f at e))
    go false f = absurd (some≢none (rw f at e))
word_is (x ∷ y ∷ rest) n o e = go (x == 45) (y == 45) refl refl rest e
  where
    go : (b d : Bool) → (x == 45) ≡ b → (y == 45) ≡ d → (rest : Text) → long_of (x ∷ y ∷ rest) ≡ Some (n, o) → x ∷ y ∷ rest ≡ codes "--" ++ behind n o
    go false d f g rest e = absurd (some≢none (rw f at e))
    go true false f g rest e = absurd (some≢none (rw (f, g) at e))
    go true true f g [] e = absurd (some≢none (rw (f, g) at e))
    go true true f g (z ∷ zs) e =
        let is : Some (name_and_value (z ∷ zs)) ≡ Some (n, o) = rw (f, g) at e in
        ap (λ a. a ∷ y ∷ z ∷ zs) ((Decides-eqb x 45).0 f) ∙ ap (λ a. 45 ∷ a ∷ z ∷ zs) ((Decides-eqb y 45).0 g)
        ∙ ap (λ t. 45 ∷ 45 ∷ t) (sym (text_back (z ∷ zs)) ∙ ap behind_of is)

-- a name that can be told from its value
abbrev pub is_plain : Text → Bool
is_plain [] = false
is_plain (x ∷ xs) = not (has_byte 61 (x ∷ xs))

plain_lacks : (text : Text) → has_byte 61 text ≡ false → Lacks 61 text
plain_lacks [] e = lacks_nil
plain_lacks (x ∷ xs) e = go (x == 61) refl e (λ h. plain_lacks xs h)
  where
    go : (b : Bool) → (x == 61) ≡ b → (b || has_byte 61 xs) ≡ false → (has_byte 61 xs ≡ false → Lacks 61 xs) → Lacks 61 (x ∷ xs)
    go true f e ih = absurd (true≢false e)
    go false f e ih = lacks_cons x xs f (ih e)

untrue : (b : Bool) → not b ≡ true → b ≡ false
untrue true e = sym e
untrue false e = refl

long_apart : (n : Text) → is_plain n ≡ true → long_of (codes "--" ++ n) ≡ Some (n, None)
long_apart [] e = absurd (true≢false (sym e))
long_apart (x ∷ xs) e = ap Some (name_and_value-without (x ∷ xs) (plain_lacks (x ∷ xs) (untrue (has_byte 61 (x ∷ xs)) e)))

long_joined : (n v : Text) → is_plain n ≡ true → long_of (codes "--" ++ (n ++ (codes "=" ++ v))) ≡ Some (n, Some v)
long_joined [] v e = absurd (true≢false (sym e))
long_joined (x ∷ xs) v e = ap Some (name_and_value-at (x ∷ xs) v (plain_lacks (x ∷ xs) (untrue (has_byte 61 (x ∷ xs)) e)))

-- ---- what is read is spelled

record Spelled (names words : List Text) (had all : List Given) : Type 0 where
  more : List Given
  are : all ≡ had ++ more
  options : AreOptions names had more words

record Waits (names words : List Text) (had all : List Given) (n : Text) : Type 0 where
  value : Text
  rest : List Text
  more : List Given
  words_are : words ≡ value ∷ rest
  no_flag : is_flag value ≡ false
  fresh : has_option had n ≡ false
  are : all ≡ had ++ (n, value) ∷ more
  options : AreOptions names (had ++ (n, value) ∷ []) more rest

abbrev Spells : List Text → List Text → Type 0
Spells names words = (all had : List Given) → (options_from names words had None ≡ Some all → Spelled names words had all)
    × ((n : Text) → options_from names words had (Some n) ≡ Some all → Waits names words had all n)

value_spelled : (names rest : List Text) (had all : List Given) (n v : Text) → Spells names rest → value_met had n v (options_from names rest) ≡ Some all
    → (has_option had n ≡ false) × Spelled names rest (had ++ (n, v) ∷ []) all
value_spelled names rest had all n v ih is = go (has_option had n) refl is
  where
    go : (b : Bool) → has_option had n ≡ b → cond b None (options_from names rest (had ++ (n, v) ∷ []) None) ≡ Some all
        → (has_option had n ≡ false) × Spelled names rest (had ++ (n, v) ∷ []) all
    go true e is = absurd (some≢none is)
    go false e is = (e, (ih all (had ++ (n, v) ∷ [])).0 is)

waits_for : (names : List Text) (word : Text) (rest : List Text) (all had : List Given) (n : Text) → Spells names rest → (b : Bool) → is_flag word ≡ b
    → cond b None (value_met had n word (options_from names rest)) ≡ Some all → Waits names (word ∷ rest) had all n
waits_for names word rest all had n ih true f is = absurd (some≢none is)
waits_for names word rest all had n ih false f is =
    let step = value_spelled names rest had all n word ih is in record {
      value = word;
      rest = rest;
      more = step.1.more;
      words_are = refl;
      no_flag = f;
      fresh = step.0;
      are = step.1.are ∙ append_assoc had ((n, word) ∷ []) step.1.more;
      options = step.1.options;
    }

option_spelled : (names : List Text) (word : Text) (rest : List Text) (all had : List Given) → Spells names rest → (o : Option (Text × Option Text)) → long_of word ≡ o
    → option_met names had o (options_from names rest) ≡ Some all → Spelled names (word ∷ rest) had all
option_spelled names word rest all had ih None l is = absurd (some≢none is)
option_spelled names word rest all had ih (Some (n, Some v)) l is = go (is_named names n) refl is
  where
    go : (b : Bool) → is_named names n ≡ b → cond b (value_met had n v (options_from names rest)) None ≡ Some all → Spelled names (word ∷ rest) had all
    go false e is = absurd (some≢none is)
    go true e is =
        let step = value_spelled names rest had all n v ih is in record {
          more = (n, v) ∷ step.1.more;
          are = step.1.are ∙ append_assoc had ((n, v) ∷ []) step.1.more;
          options = (e, step.0, (rest, inr (ap (λ w. w ∷ rest) (word_is word n (Some v) l)), step.1.options));
        }
option_spelled names word rest all had ih (Some (n, None)) l is = go (is_named names n) refl is
  where
    go : (b : Bool) → is_named names n ≡ b → cond b (options_from names rest had (Some n)) None ≡ Some all → Spelled names (word ∷ rest) had all
    go false e is = absurd (some≢none is)
    go true e is =
        let w = (ih all had).1 n is in record {
          more = (n, w.value) ∷ w.more;
          are = w.are;
          options = (e, w.fresh, (w.rest, inl (ap (λ ws. word ∷ ws) w.words_are ∙ ap (λ t. t ∷ w.value ∷ w.rest) (word_is word n None l), w.no_flag), w.options));
        }

spells : (names words : List Text) → Spells names words
spells names [] = λ all had. (
  λ is. record { more = []; are = same_all is ∙ sym (append-nil had); options = refl },
  λ n is. absurd (some≢none is),
)
spells names (word ∷ rest) = λ all had. (
  λ is. option_spelled names word rest all had (spells names rest) (long_of word) refl is,
  λ n is. waits_for names word rest all had n (spells names rest) (is_flag word) refl is,
)

pub options_spelled : (names words : List Text) (all : List Given) → options_from names words [] None ≡ Some all → AreOptions names [] all words
options_spelled names words all is =
    let s = (spells names words all []).0 is in
    rw (s.are) s.options

-- ---- what is spelled is read

pub named_plain : (names : List Text) (n : Text) → list_all is_plain names ≡ true → is_named names n ≡ true → is_plain n ≡ true
named_plain [] n all e = absurd (true≢false (sym e))
named_plain (s ∷ ss) n all e = go (bytes_eq s n) refl (is_plain s) refl all e (λ h i. named_plain ss n h i)
  where
    go : (b : Bool) → bytes_eq s n ≡ b → (p : Bool) → is_plain s ≡ p → (p && list_all is_plain ss) ≡ true → (b || is_named ss n) ≡ true
        → (list_all is_plain ss ≡ true → is_named ss n ≡ true → is_plain n ≡ true) → is_plain n ≡ true
    go b f false g all e ih = absurd (true≢false (sym all))
    go true f true g all e ih = ap is_plain (sym ((bytes_eq-Decides s n).0 f)) ∙ g
    go false f true g all e ih = ih all e

pub options_read : (names : List Text) → list_all is_plain names ≡ true → (given had : List Given) (words : List Text) → AreOptions names had given words
    → options_from names words had None ≡ Some (had ++ given)
options_read names plain [] had words h = ap (λ ws. options_from names ws had None) h ∙ ap Some (sym (append-nil had))
options_read names plain (o ∷ more) had words h =
    let rest = h.2.0 in
    let n_plain = named_plain names o.0 plain h.0 in
    let next : value_met had o.0 o.1 (options_from names rest) ≡ Some (had ++ o ∷ more) =
    rw (h.1) (options_read names plain more (had ++ o ∷ []) rest h.2.2 ∙ ap Some (append_assoc had (o ∷ []) more)) in
    elim h.2.1 [
      | inl f ↦ ap (λ ws. options_from names ws had None) f.0 ∙ rw (long_apart o.0 n_plain, h.0, f.1) next
      | inr f ↦ ap (λ ws. options_from names ws had None) f ∙ rw (long_joined o.0 o.1 n_plain, h.0) next
    ]

-- ---- the modes

pub run_plain : list_all is_plain run_names ≡ true
run_plain = refl

pub audit_plain : list_all is_plain audit_names ≡ true
audit_plain = refl

value_is : {X : Type 0} {a b : X} → Some a ≡ Some b → a ≡ b
value_is {X} {a} {b} e = ap (λ (o : Option X). unwrap_or o a) e

settings_are : (value : Text → Option Text) (settings : Settings) → settings_of value ≡ Some settings → AreSettings value settings
settings_are value settings is =
    go (folder_passes (value (codes "folder"))) refl (number_or 1 1 MAX_MACHINES (value (codes "machines"))) refl (number_or 1 1 MAX_VOLUMES (value (codes "volumes"))) refl
    (number_or 1 1 MAX_REPLICAS (value (codes "replicas"))) refl (number_or USUAL_CAPACITY MIN_CAPACITY MAX_CAPACITY (value (codes "capacity"))) refl (secret_or (value (codes "secret"))) refl is
  where
    by_order : (machines volumes replicas capacity : ℕ) (secret : List ℕ) → folder_passes (value (codes "folder")) ≡ true → number_or 1 1 MAX_MACHINES (value (codes "machines")) ≡ Some machines
        → number_or 1 1 MAX_VOLUMES (value (codes "volumes")) ≡ Some volumes → number_or 1 1 MAX_REPLICAS (value (codes "replicas")) ≡ Some replicas
        → number_or USUAL_CAPACITY MIN_CAPACITY MAX_CAPACITY (value (codes "capacity")) ≡ Some capacity → secret_or (value (codes "secret")) ≡ Some secret
        → (b : Bool) → nat_le replicas machines ≡ b
        → cond b (Some (record { machines = machines; volumes = volumes; replicas = replicas; capacity = capacity; secret = secret })) None ≡ Some settings → AreSettings value settings
    by_order m v r c s f em ev er ec es false le is = absurd (some≢none is)
    by_order m v r c s f em ev er ec es true le is = subst (λ x. AreSettings value x) (value_is is) (record {
      machines = em;
      volumes = ev;
      replicas = er;
      no_more = grind (arith, nat_tests);
      capacity = ec;
      secret = es;
      folder = f;
    })

    go : (f : Bool) → folder_passes (value (codes "folder")) ≡ f → (m : Option ℕ) → number_or 1 1 MAX_MACHINES (value (codes "machines")) ≡ m → (v : Option ℕ)
        → number_or 1 1 MAX_VOLUMES (value (codes "volumes")) ≡ v
        → (r : Option ℕ) → number_or 1 1 MAX_REPLICAS (value (codes "replicas")) ≡ r → (c : Option ℕ) → number_or USUAL_CAPACITY MIN_CAPACITY MAX_CAPACITY (value (codes "capacity")) ≡ c
        → (s : Option (List ℕ)) → secret_or (value (codes "secret")) ≡ s
        → cond f (option_and_then (λ m. option_and_then (λ v. option_and_then (λ r. option_and_then (λ c. option_and_then (λ s. settings_by m v r c s) s) c) r) v) m) None ≡ Some settings
        → AreSettings value settings
    go false ef m em v ev r er c ec s es is = absurd (some≢none is)
    go true ef None em v ev r er c ec s es is = absurd (some≢none is)
    go true ef (Some m) em None ev r er c ec s es is = absurd (some≢none is)
    go true ef (Some m) em (Some v) ev None er c ec s es is = absurd (some≢none is)
    go true ef (Some m) em (Some v) ev (Some r) er None ec s es is = absurd (some≢none is)
    go true ef (Some m) em (Some v) ev (Some r) er (Some c) ec None es is = absurd (some≢none is)
    go true ef (Some m) em (Some v) ev (Some r) er (Some c) ec (Some s) es is = by_order m v r c s ef em ev er ec es (nat_le r m) refl is

settings_read : (value : Text → Option Text) (settings : Settings) → AreSettings value settings → settings_of value ≡ Some settings
settings_read value settings h =
    let order : nat_le settings.replicas settings.machines ≡ true = let le = h.no_more in grind (arith, nat_tests) in
    rw (h.folder, h.machines, h.volumes, h.replicas, h.capacity, h.secret, order) refl

store_spelled : (names words : List Text) (settings : Settings) → store_of names words ≡ Some settings → IsStore names words settings
store_spelled names words settings is = go (options_of names words) refl is
  where
    go : (o : Option (List Given)) → options_of names words ≡ o → option_and_then (λ had. settings_of (value_of had)) o ≡ Some settings → IsStore names words settings
    go None e is = absurd (some≢none is)
    go (Some had) e is = (had, options_spelled names words had e, settings_are (value_of had) settings is)

run_spelled : (words : List Text) (mode : Mode) → option_map Run (store_of run_names words) ≡ Some mode → Says (codes "run" ∷ words) mode
run_spelled words mode is = go (store_of run_names words) refl is
  where
    go : (o : Option Settings) → store_of run_names words ≡ o → option_map Run o ≡ Some mode → Says (codes "run" ∷ words) mode
    go None e is = absurd (some≢none is)
    go (Some settings) e is = subst (λ m. Says (codes "run" ∷ words) m) (value_is is) (refl, store_spelled run_names words settings e)

check_spelled : (words : List Text) (mode : Mode) → option_map Check (store_of run_names words) ≡ Some mode → Says (codes "check" ∷ words) mode
check_spelled words mode is = go (store_of run_names words) refl is
  where
    go : (o : Option Settings) → store_of run_names words ≡ o → option_map Check o ≡ Some mode → Says (codes "check" ∷ words) mode
    go None e is = absurd (some≢none is)
    go (Some settings) e is = subst (λ m. Says (codes "check" ∷ words) m) (value_is is) (refl, store_spelled run_names words settings e)

load_spelled : (words : List Text) (mode : Mode) → option_map Load (store_of run_names words) ≡ Some mode → Says (codes "load" ∷ words) mode
load_spelled words mode is = go (store_of run_names words) refl is
  where
    go : (o : Option Settings) → store_of run_names words ≡ o → option_map Load o ≡ Some mode → Says (codes "load" ∷ words) mode
    go None e is = absurd (some≢none is)
    go (Some settings) e is = subst (λ m. Says (codes "load" ∷ words) m) (value_is is) (refl, store_spelled run_names words settings e)

audit_spelled : (words : List Text) (mode : Mode) → option_map Audit (store_of audit_names words) ≡ Some mode → Says (codes "audit" ∷ words) mode
audit_spelled words mode is = go (store_of audit_names words) refl is
  where
    go : (o : Option Settings) → store_of audit_names words ≡ o → option_map Audit o ≡ Some mode → Says (codes "audit" ∷ words) mode
    go None e is = absurd (some≢none is)
    go (Some settings) e is = subst (λ m. Says (codes "audit" ∷ words) m) (value_is is) (refl, store_spelled audit_names words settings e)

drill_spelled : (words : List Text) (mode : Mode) → drill_of words ≡ Some mode → Says (codes "drill" ∷ words) mode
drill_spelled [] mode is = absurd (some≢none is)
drill_spelled (a ∷ []) mode is = absurd (some≢none is)
drill_spelled (a ∷ b ∷ c ∷ rest) mode is = absurd (some≢none is)
drill_spelled (a ∷ b ∷ []) mode is = go (number_in 1 1000 a) refl (number_in 0 18446744073709551615 b) refl is
  where
    go : (m : Option ℕ) → number_in 1 1000 a ≡ m → (n : Option ℕ) → number_in 0 18446744073709551615 b ≡ n
        → option_and_then (λ x. option_map (Drill x) n) m ≡ Some mode → Says (codes "drill" ∷ a ∷ b ∷ []) mode
    go None e n f is = absurd (some≢none is)
    go (Some x) e None f is = absurd (some≢none is)
    go (Some x) e (Some y) f is = subst (λ m. Says (codes "drill" ∷ a ∷ b ∷ []) m) (value_is is) (refl, record { count_word = a; first_word = b; words_are = refl; count_is = e; first_is = f })

pub mode_spelled : (words : List Text) (mode : Mode) → mode_of words ≡ Some mode → Says words mode
mode_spelled [] mode is = absurd (some≢none is)
mode_spelled (word ∷ words) mode is =
    go (bytes_eq word (codes "run")) refl (bytes_eq word (codes "check")) refl (bytes_eq word (codes "load")) refl (bytes_eq word (codes "audit")) refl (bytes_eq word (codes "drill")) refl is
  where
    go : (b : Bool) → bytes_eq word (codes "run") ≡ b → (c : Bool) → bytes_eq word (codes "check") ≡ c → (l : Bool) → bytes_eq word (codes "load") ≡ l
        → (a : Bool) → bytes_eq word (codes "audit") ≡ a → (d : Bool) → bytes_eq word (codes "drill") ≡ d
        → cond b (option_map Run (store_of run_names words)) (cond c (option_map Check (store_of run_names words)) (cond l (option_map Load (store_of run_names words))
        (cond a (option_map Audit (store_of audit_names words)) (cond d (drill_of words) None)))) ≡ Some mode → Says (word ∷ words) mode
    go true e c f l k a j d g is = subst (λ w. Says (w ∷ words) mode) (sym ((bytes_eq-Decides word (codes "run")).0 e)) (run_spelled words mode is)
    go false e true f l k a j d g is = subst (λ w. Says (w ∷ words) mode) (sym ((bytes_eq-Decides word (codes "check")).0 f)) (check_spelled words mode is)
    go false e false f true k a j d g is = subst (λ w. Says (w ∷ words) mode) (sym ((bytes_eq-Decides word (codes "load")).0 k)) (load_spelled words mode is)
    go false e false f false k true j d g is = subst (λ w. Says (w ∷ words) mode) (sym ((bytes_eq-Decides word (codes "audit")).0 j)) (audit_spelled words mode is)
    go false e false f false k false j true g is = subst (λ w. Says (w ∷ words) mode) (sym ((bytes_eq-Decides word (codes "drill")).0 g)) (drill_spelled words mode is)
    go false e false f false k false j false g is = absurd (some≢none is)

pub mode_read : (words : List Text) (mode : Mode) → Says words mode → mode_of words ≡ Some mode
mode_read [] mode h = absurd h
mode_read (word ∷ words) (Run settings) h =
    rw (h.0, options_read run_names run_plain h.1.0 [] words h.1.1, settings_read (value_of h.1.0) settings h.1.2) refl
mode_read (word ∷ words) (Check settings) h =
    rw (h.0, options_read run_names run_plain h.1.0 [] words h.1.1, settings_read (value_of h.1.0) settings h.1.2) refl
mode_read (word ∷ words) (Load settings) h =
    rw (h.0, options_read run_names run_plain h.1.0 [] words h.1.1, settings_read (value_of h.1.0) settings h.1.2) refl
mode_read (word ∷ words) (Audit settings) h =
    rw (h.0, options_read audit_names audit_plain h.1.0 [] words h.1.1, settings_read (value_of h.1.0) settings h.1.2) refl
mode_read (word ∷ words) (Drill count first) h =
    let d = h.1 in
    rw (h.0, d.words_are, d.count_is, d.first_is) refl

pub none_says : (words : List Text) → mode_of words ≡ None → (mode : Mode) → Says words mode → ⊥
none_says words none mode h = some≢none (sym none ∙ mode_read words mode h)

pub said : {E : Type 0} (words : List Text) (r : Result Mode E) → IfOk r (λ mode. mode_of words ≡ Some mode) → IfOk r (Says words)
said words (Ok mode) h = mode_spelled words mode h
said words (Err e) h = tt
