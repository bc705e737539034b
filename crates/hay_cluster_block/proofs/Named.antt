-- The rows that a block added are found by their lines.
use Rattle.std.proofs.Common.{◌≡◌, ◌≢◌, ◌<◌, ℕ, zero, suc, List, [], ◌∷◌, Vec, Global, map, length, Contains, Option, Some, None, inl, inr, refl, sym, ap, subst, ◌∙◌, arith, take}
use Rattle.std.specs.Prelude.{slice_get}
use Rattle.std.specs.List.{AllByRecursion as Each, AllZip, cons_option}
use Rattle.std.proofs.lemmas.List.{length-map}
use Rattle.std.proofs.lemmas.List.Elements.{Contains-append_cases, Contains-append_left, Contains-append_right}
use Rattle.hay_needle.specs.declared.needle.Pair.{Pair}
use Rattle.hay_needle.specs.declared.settings.Settings.{Settings}
use Rattle.hay_reply.specs.declared.LineVolume.{LineVolume}
use Rattle.hay_reply.specs.declared.Reply.{Reply}
use Rattle.hay_legal.specs.declared.known.HomeRow.{HomeRow}
use Rattle.hay_legal.specs.declared.known.Known.{Known}
use Rattle.hay_legal.specs.declared.turn.LaneItem.{LaneItem}
use Rattle.hay_legal.specs.declared.turn.RowNote.{RowNote}
use Rattle.hay_legal.specs.Blocks.{IsNewRow, RowsAreLegal, new_rows}
use Rattle.hay_legal.specs.Known.{EachPair, home_in}
use Rattle.hay_history.proofs.Lists.{each_in, first_or_rest, in_rest, is_first, none_in}
use Rattle.hay_meeting.proofs.Closing.{there}
use Rattle.hay_meeting.proofs.Picking.{in_part, in_whole, pick, picked}
use Rattle.hay_block.proofs.Lists.{zip_long}
use Rattle.hay_block.specs.declared.worker.Job.{Job}
use Rattle.hay_block.specs.Lines.{AreItems, answered_line, answered_lines}
use Rattle.hay_cluster_block.proofs.Homes.{found, homes_behind, new_homes}
use Rattle.hay_cluster_block.specs.Rows.{all_jobs, home_at, home_by, row_at, row_by, rows_at}

-- LINES AND THEIR ANSWERS

-- a job that an answered line was
pub record IsJobOf (jobs : List Job) (item : LaneItem) : Type 0 where
  pub job : Job
  pub among : Contains jobs job
  pub line : job.line ≡ item.line
  pub asks : job.item ≡ item.item

-- an answered line that a job was
pub record IsLineOf (items : List LaneItem) (job : Job) : Type 0 where
  pub item : LaneItem
  pub among : Contains items item
  pub line : item.line ≡ job.line
  pub asks : item.item ≡ job.item

job_in : (lane : ℕ) (js : List Job) (rs : List Reply) (item : LaneItem) → Contains (answered_lines lane js rs) item → IsJobOf js item
job_in lane [] rs item among = absurd (none_in item among)
job_in lane (job ∷ js) [] item among = absurd (none_in item among)
job_in lane (job ∷ js) (reply ∷ rs) item among = elim (first_or_rest (answered_line lane job reply) (answered_lines lane js rs) item among) [
  | inl e ↦ record { job = job; among = is_first job js; line = ap (λ (i : LaneItem). i.line) e; asks = ap (λ (i : LaneItem). i.item) e }
  | inr later ↦ let r = job_in lane js rs item later in record { job = r.job; among = in_rest job js r.job r.among; line = r.line; asks = r.asks }
]

line_in : (lane : ℕ) (js : List Job) (rs : List Reply) (job : Job) → length js ≡ length rs → Contains js job → IsLineOf (answered_lines lane js rs) job
line_in lane [] rs job long among = absurd (none_in job among)
line_in lane (first ∷ js) [] job long among = absurd (omega (arith, long))
line_in lane (first ∷ js) (reply ∷ rs) job long among = elim (first_or_rest first js job among) [
  | inl e ↦ record {
    item = answered_line lane first reply;
    among = is_first (answered_line lane first reply) (answered_lines lane js rs);
    line = ap (λ (j : Job). j.line) e;
    asks = ap (λ (j : Job). j.item) e;
  }
  | inr later ↦
      let less : length js ≡ length rs = omega (arith, long) in
      let r = line_in lane js rs job less later in
      record { item = r.item; among = in_rest (answered_line lane first reply) (answered_lines lane js rs) r.item r.among; line = r.line; asks = r.asks }
]

-- the lines of a lane are among all, and each is of a lane
in_all : (jobs : List (Vec Job Global)) (lane : ℕ) (js : List Job) (job : Job) → slice_get (map (λ (own : Vec Job Global). own.items) jobs) lane ≡ Some js → Contains js job
    → Contains (all_jobs jobs) job
in_all [] lane js job at among = absurd cc
in_all (own ∷ jobs) zero js job at among =
    let same : own.items ≡ js = cc at in Contains-append_left own.items (all_jobs jobs) job (subst (λ z. Contains z job) (sym same) among)
in_all (own ∷ jobs) (suc lane) js job at among = Contains-append_right own.items (all_jobs jobs) job (in_all jobs lane js job at among)

record IsOfLane (jobs : List (Vec Job Global)) (job : Job) : Type 0 where
  lane : ℕ
  js : List Job
  at : slice_get (map (λ (own : Vec Job Global). own.items) jobs) lane ≡ Some js
  among : Contains js job

of_lane : (jobs : List (Vec Job Global)) (job : Job) → Contains (all_jobs jobs) job → IsOfLane jobs job
of_lane [] job among = absurd (none_in job among)
of_lane (own ∷ jobs) job among = elim (Contains-append_cases own.items (all_jobs jobs) job among) [
  | inl here ↦ record { lane = 0; js = own.items; at = refl; among = here }
  | inr later ↦ let r = of_lane jobs job later in record { lane = suc r.lane; js = r.js; at = r.at; among = r.among }
]

as_long : (jobs : List (Vec Job Global)) (replies : List (Vec Reply Global)) → AllZip (λ (js : Vec Job Global) (rs : Vec Reply Global). length js.items ≡ length rs.items) jobs replies
    → (lane : ℕ) (js : List Job) (rs : List Reply) → slice_get (map (λ (own : Vec Job Global). own.items) jobs) lane ≡ Some js
    → slice_get (map (λ (own : Vec Reply Global). own.items) replies) lane ≡ Some rs
    → length js ≡ length rs
as_long [] [] all lane js rs at_js at_rs = absurd cc
as_long [] (r ∷ replies) all lane js rs at_js at_rs = absurd all
as_long (j ∷ jobs) [] all lane js rs at_js at_rs = absurd all
as_long (j ∷ jobs) (r ∷ replies) all zero js rs at_js at_rs =
    let one : j.items ≡ js = cc at_js in let two : r.items ≡ rs = cc at_rs in ap length (sym one) ∙ (all.0 ∙ ap length two)
as_long (j ∷ jobs) (r ∷ replies) all (suc lane) js rs at_js at_rs = as_long jobs replies all.1 lane js rs at_js at_rs

module _ (jobs : List (Vec Job Global)) (replies : List (Vec Reply Global)) {items : List LaneItem}
    (replied : AllZip (λ (js : Vec Job Global) (rs : Vec Reply Global). length js.items ≡ length rs.items) jobs replies)
    (are : AreItems (map (λ (own : Vec Job Global). own.items) jobs) (map (λ (own : Vec Reply Global). own.items) replies) items) where
  abbrev lane_jobs : List (List Job)
  lane_jobs = map (λ (own : Vec Job Global). own.items) jobs

  abbrev lane_replies : List (List Reply)
  lane_replies = map (λ (own : Vec Reply Global). own.items) replies

  many : length lane_replies ≡ length lane_jobs
  many =
      length-map replies (λ (own : Vec Reply Global). own.items)
      ∙ (zip_long (λ (js : Vec Job Global) (rs : Vec Reply Global). length js.items ≡ length rs.items) jobs replies replied
      ∙ sym (length-map jobs (λ (own : Vec Job Global). own.items)))

  pub job_for : (item : LaneItem) → Contains items item → IsJobOf (all_jobs jobs) item
  job_for item among =
      let lane : ℕ = item.lane in
      let low : lane < length lane_jobs = each_in (λ (i : LaneItem). i.lane < length lane_jobs) items item are.low among in
      let js = there lane_jobs lane low in
      let rs = there lane_replies lane (let same = many in omega (arith, low, same)) in
      let r = job_in lane js.0 rs.0 item (subst (λ z. Contains z item) (are.each lane js.0 rs.0 js.1 rs.1) (in_part (λ (i : LaneItem). i.lane) items item among)) in
      record { job = r.job; among = in_all jobs lane js.0 r.job js.1 r.among; line = r.line; asks = r.asks }

  pub line_for : (job : Job) → Contains (all_jobs jobs) job → IsLineOf items job
  line_for job among =
      let f = of_lane jobs job among in
      let below : f.lane < length lane_jobs = within lane_jobs f.lane f.js f.at in
      let rs = there lane_replies f.lane (let same = many in omega (arith, below, same)) in
      let i = line_in f.lane f.js rs.0 job (as_long jobs replies replied f.lane f.js rs.0 f.at rs.1) f.among in
      record {
        item = i.item;
        among = in_whole (λ (i : LaneItem). i.lane) items f.lane i.item (subst (λ z. Contains z i.item) (sym (are.each f.lane f.js rs.0 f.at rs.1)) i.among);
        line = i.line;
        asks = i.asks;
      }
    where
      within : (xs : List (List Job)) (n : ℕ) (x : List Job) → slice_get xs n ≡ Some x → n < length xs
      within [] n x at = absurd cc
      within (y ∷ xs) zero x at = omega arith
      within (y ∷ xs) (suc n) x at = let rest = within xs n x at in omega (arith, rest)

  module _ (distinct : EachPair (λ a b. a.line ≢ b.line) items) where
    -- no line stands twice
    pub same_line : (a b : LaneItem) → Contains items a → Contains items b → a.line ≡ b.line → a ≡ b
    same_line a b among_a among_b e =
        sym (picked (λ (i : LaneItem). i.line) a items a distinct among_a)
        ∙ (ap (λ n. pick (λ (i : LaneItem). i.line) a items n) e ∙ picked (λ (i : LaneItem). i.line) a items b distinct among_b)

    pub same_job : (one other : Job) → Contains (all_jobs jobs) one → Contains (all_jobs jobs) other → other.line ≡ one.line → other.item ≡ one.item
    same_job one other among_one among_other e =
        let a = line_for one among_one in
        let b = line_for other among_other in
        let same : b.item ≡ a.item = same_line b.item a.item b.among a.among (b.line ∙ (e ∙ sym a.line)) in
        sym b.asks ∙ (ap (λ (i : LaneItem). i.item) same ∙ a.asks)

    -- NEW ROWS

    module _ (settings : Settings) (k t : Known) (home : Pair → Option ℕ) (homes : (pair : Pair) → home pair ≡ home_in t.directory.rows pair) where
      row_is : (named : LineVolume) (row : HomeRow) → IsNewRow settings k items t named row → home row.pair ≡ Some row.volume → row_at home (all_jobs jobs) named.line ≡ Some named
      row_is named row new at =
          let j = job_for new.item new.among in
          let is : home_by home j.job.item ≡ Some named.volume = ap (home_by home) (j.asks ∙ new.put) ∙ (at ∙ ap Some (sym new.volume)) in
          let here : home_at home (all_jobs jobs) named.line ≡ Some named.volume =
          subst (λ line. home_at home (all_jobs jobs) line ≡ Some named.volume) (j.line ∙ new.line)
          (found home (all_jobs jobs) j.job named.volume j.among is (λ other among e. same_job j.job other j.among among e)) in
          ap (row_by named.line) here

      rows_are : (named : List LineVolume) (rows : List HomeRow) → AllZip (IsNewRow settings k items t) named rows → Each (λ row. home row.pair ≡ Some row.volume) rows
          → rows_at home (all_jobs jobs) (map (λ (row : LineVolume). row.line) named) ≡ named
      rows_are [] rows all at = refl
      rows_are (n ∷ named) [] all at = absurd all
      rows_are (n ∷ named) (row ∷ rows) all at =
          ap (λ z. cons_option z (rows_at home (all_jobs jobs) (map (λ (r : LineVolume). r.line) named))) (row_is n row all.0 at.0) ∙ ap (λ z. n ∷ z) (rows_are named rows all.1 at.1)

      missing : (named : List LineVolume) (rows : List HomeRow) → AllZip (IsNewRow settings k items t) named rows → Each (λ row. home_in k.directory.rows row.pair ≡ None) rows
      missing [] [] all = tt
      missing [] (row ∷ rows) all = absurd all
      missing (n ∷ named) [] all = tt
      missing (n ∷ named) (row ∷ rows) all = (all.0.gets.missing, missing named rows all.1)

      both : (rows : List HomeRow) → Each (λ row. home_in k.directory.rows row.pair ≡ None) rows → Each (λ row. home_in (new_rows k t) row.pair ≡ Some row.volume) rows
          → take (length k.directory.rows) t.directory.rows ≡ k.directory.rows → Each (λ row. home row.pair ≡ Some row.volume) rows
      both [] none new kept = tt
      both (row ∷ rows) none new kept = (homes row.pair ∙ homes_behind t.directory.rows k.directory.rows row kept none.0 new.0, both rows none.1 new.1 kept)

      -- each new row is found by its line
      pub rows_found : (rows : RowNote) → RowsAreLegal settings k items rows t → rows_at home (all_jobs jobs) (map (λ (row : LineVolume). row.line) rows.rows) ≡ rows.rows
      rows_found rows legal =
          rows_are rows.rows (new_rows k t) legal.each (both (new_rows k t) (missing rows.rows (new_rows k t) legal.each) (new_homes (new_rows k t) legal.distinct) legal.kept)
