-- What the crate shows of kept states.
use Rattle.std.specs.Prelude.{◌≡◌, ◌≢◌, ℕ, List, [], ◌∷◌, ◌++◌, length, map, flat_map, Bool}
use Rattle.std.specs.List.{AllByRecursion as Each}
use Rattle.hay_needle.specs.declared.settings.Settings.{Settings}
use Rattle.hay_script.specs.declared.Command.TheVariants as command
use Rattle.hay_reply.specs.declared.Reply.{Reply}
use Rattle.hay_reply.specs.declared.Reply.TheVariants as reply
use Rattle.hay_reply.specs.declared.Note.{Note}
use Rattle.hay_reply.specs.Fits.{FitsReply, FitsNote}
use Rattle.hay_reply.specs.Replies.{numbered_line, note_line}
use Rattle.hay_core.specs.declared.entry.Entry.{Entry}
use Rattle.hay_legal.specs.declared.known.ReplicaKnown.{ReplicaKnown}
use Rattle.hay_legal.specs.declared.known.VolumeKnown.{VolumeKnown}
use Rattle.hay_legal.specs.declared.known.Known.{Known}
use Rattle.hay_legal.specs.declared.turn.Item.{Item}
use Rattle.hay_legal.specs.declared.turn.Item.TheVariants as item
use Rattle.hay_legal.specs.Items.{Asked, items_of}
use Rattle.hay_legal.specs.Items.Asked.{Alone}
use Rattle.hay_legal.specs.Known.{empty_volume}
use Rattle.hay_legal.specs.Restarts.{MayKeep, ReopenedReplica, ReopenedVolume}
use Rattle.hay_audit_steps.specs.CheckerSteps.{AnyOf, IsStep, IsStepOf, plain_row}
use Rattle.hay_audit_steps.specs.Next.{next_plain}
use Rattle.hay_audit_steps.specs.Reopen.{IsDecided, next_restart, restart_row}
use Rattle.hay_audit_steps.specs.Slacks.{Lies}
use Rattle.hay_audit_steps.specs.Reached.{Candidate, Is, IsAdvance, AllAdvance, Reached, candidate, IsNoRestart, note_count}
use Rattle.hay_audit_steps.specs.Judged.{Judgement, JudgementOf, AreBeforeOpen, Begins, Tells, HasOtherHeader}
use Rattle.hay_audit_steps.specs.Judged.Judgement.{Unlawful}
use Rattle.hay_audit_steps.specs.Parts.{Part, In, InVolumeParts, ArePartsOf, reopened_parts, reopened_choices}

-- all but the finish of a compaction, which leaves ranges of sizes
abbrev pub IsExact : Item → Reply → Type 0
IsExact (item.Command (command.Finish v m)) (reply.Compacted v' m' g) = ⊥
IsExact _ _ = Unit {0}

-- Behind a plain line, whatever it was answered but want of memory, these states are kept.
abbrev pub PlainLinesAreSteps : Type 0
PlainLinesAreSteps =
    (settings : Settings) (k : Known) (line : ℕ) (asked : Item) (answer : Reply) → answer ≢ reply.NoMem → IsExact asked answer
    → IsStep (plain_row settings line asked answer) k (next_plain settings line asked answer k)

-- Behind a restart from a store that leaves no doubt, whatever it was answered but want of memory, this state is kept.
abbrev pub RestartsAreSteps : Type 0
RestartsAreSteps =
    (settings : Settings) (k : Known) (answer : Reply) (notes : List Note) → answer ≢ reply.NoMem → Each IsDecided k.volumes
    → IsStep (restart_row settings answer notes) k (next_restart settings k answer notes)

-- Each replica of the parts is one that a restart may leave of a replica of the part before.
abbrev pub PartsAreSound : Type 0
PartsAreSound =
    (volume : VolumeKnown) (part : Part) (kept : List Entry) → Lies part.low part.high
    → Each (λ next. (new : ReplicaKnown) → In next new → (old : ReplicaKnown) × In part old × ReopenedReplica volume old kept new)
    (reopened_parts volume part kept)

-- Each replica that a restart may leave of a replica of the part is in one of the parts behind it.
abbrev pub PartsAreComplete : Type 0
PartsAreComplete =
    (volume : VolumeKnown) (part : Part) (kept : List Entry) (old new : ReplicaKnown) → In part old → ReopenedReplica volume old kept new
    → AnyOf (λ next. In next new) (reopened_parts volume part kept)

-- The same of a volume with all its replicas, where these keep so much of its pending change.
abbrev pub VolumesReopenSound : Type 0
VolumesReopenSound =
    (settings : Settings) (v : ℕ) (volume : VolumeKnown) (parts : List Part) (kept : List Bool) → ArePartsOf volume parts → MayKeep settings v volume volume.pending kept
    → Each (λ nexts. (new : VolumeKnown) → InVolumeParts empty_volume nexts new → (old : VolumeKnown) × InVolumeParts volume parts old × ReopenedVolume settings v old kept new)
    (reopened_choices volume kept 0 parts)

abbrev pub VolumesReopenComplete : Type 0
VolumesReopenComplete =
    (settings : Settings) (v : ℕ) (volume : VolumeKnown) (parts : List Part) (kept : List Bool) (old new : VolumeKnown) → ArePartsOf volume parts
    → InVolumeParts volume parts old → ReopenedVolume settings v old kept new
    → MayKeep settings v volume volume.pending kept × AnyOf (λ nexts. InVolumeParts empty_volume nexts new) (reopened_choices volume kept 0 parts)

-- A state that is known but for its counts stands for itself.
abbrev pub ExactStatesStep : Type 1
ExactStatesStep = (row : Known → Known → Type 0) (k : Known) (next : List Known) → IsStep row k next → IsStepOf Is row k next

-- Steps of a plain line, whose reply stands at the front of what is left, advance a candidate.
abbrev pub LinesAdvance : {S : Type 0} → (S → Known → Type 0) → Type 0
LinesAdvance {S} Has =
    (settings : Settings) (state : S) (line : ℕ) (asked : Item) (answer : Reply) (rest : List ℕ) (next : List S)
    → IsNoRestart asked → FitsReply answer → IsStepOf Has (plain_row settings line asked answer) state next
    → IsAdvance Has settings (Alone line asked) (candidate (numbered_line line answer ++ rest) state) (map (candidate rest) next)

-- So do steps of a restart, with as many notes as it tells.
abbrev pub RestartsAdvance : {S : Type 0} → (S → Known → Type 0) → Type 0
RestartsAdvance {S} Has =
    (settings : Settings) (state : S) (line pick d : ℕ) (notes : List Note) (rest : List ℕ) (next : List S)
    → FitsReply (reply.Restarted d) → Each FitsNote notes → ((k : Known) → Has state k → note_count k ≡ length notes)
    → IsStepOf Has (restart_row settings (reply.Restarted d) notes) state next
    → IsAdvance Has settings (Alone line (item.Command (command.Restart pick)))
    (candidate (numbered_line line (reply.Restarted d) ++ (flat_map note_line notes ++ rest)) state) (map (candidate rest) next)

-- Where no reply stands at the front of what is left, no candidate follows.
abbrev pub UnreadLinesEnd : {S : Type 0} → (S → Known → Type 0) → Type 0
UnreadLinesEnd {S} Has =
    (settings : Settings) (c : Candidate S) (line : ℕ) (asked : Item)
    → ((answer : Reply) (rest : List ℕ) → FitsReply answer → numbered_line line answer ++ rest ≢ c.rest)
    → IsAdvance Has settings (Alone line asked) c []

-- Nor where a restart was not answered that it restarted, or its notes do not stand behind its reply.
abbrev pub UnreadNotesEnd : {S : Type 0} → (S → Known → Type 0) → Type 0
UnreadNotesEnd {S} Has =
    (settings : Settings) (state : S) (line pick : ℕ) (answer : Reply) (rest : List ℕ) → FitsReply answer → answer ≢ reply.NoMem
    → ((d : ℕ) (k : Known) (notes : List Note) (behind : List ℕ) → answer ≡ reply.Restarted d → Has state k → length notes ≡ note_count k → Each FitsNote notes
    → flat_map note_line notes ++ behind ≢ rest)
    → IsAdvance Has settings (Alone line (item.Command (command.Restart pick))) (candidate (numbered_line line answer ++ rest) state) []

-- Before the first item there is one candidate.
abbrev pub CandidatesBegin : {S : Type 0} → (S → Known → Type 0) → Type 0
CandidatesBegin {S} Has = (settings : Settings) (c : Candidate S) → Reached Has settings [] c (c ∷ [])

-- Candidates advance one by one: behind none there is none.
abbrev pub NoneAdvance : {S : Type 0} → (S → Known → Type 0) → Type 0
NoneAdvance {S} Has = (settings : Settings) (asked : Asked) → AllAdvance Has settings asked [] []

abbrev pub CandidatesAdvance : {S : Type 0} → (S → Known → Type 0) → Type 0
CandidatesAdvance {S} Has =
    (settings : Settings) (asked : Asked) (c : Candidate S) (cs next others : List (Candidate S))
    → IsAdvance Has settings asked c next → AllAdvance Has settings asked cs others → AllAdvance Has settings asked (c ∷ cs) (next ++ others)

-- Candidates behind items, each of which advances by one item more, are the candidates behind these.
abbrev pub CandidatesGoOn : {S : Type 0} → (S → Known → Type 0) → Type 0
CandidatesGoOn {S} Has =
    (settings : Settings) (asks : List Asked) (asked : Asked) (c : Candidate S) (cs next : List (Candidate S))
    → Reached Has settings asks c cs → AllAdvance Has settings asked cs next → Reached Has settings (asks ++ asked ∷ []) c next

-- What the candidates tell is the judgement.
abbrev pub CandidatesJudge : {S : Type 0} → (S → Known → Type 0) → Type 0
CandidatesJudge {S} Has =
    (settings : Settings) (script transcript : List ℕ) (c : Candidate S) (n : ℕ) (judgement : Judgement)
    → Begins Has settings transcript c → AreBeforeOpen (items_of script) transcript n → Tells Has settings (items_of script) c n judgement
    → JudgementOf settings script transcript judgement

abbrev pub OtherHeadersAreUnlawful : Type 0
OtherHeadersAreUnlawful =
    (settings : Settings) (script transcript : List ℕ) (n : ℕ) → AreBeforeOpen (items_of script) transcript n → HasOtherHeader settings transcript
    → JudgementOf settings script transcript (Unlawful 0)

-- A transcript has one judgement.
abbrev pub OneJudgement : Type 0
OneJudgement =
    (settings : Settings) (script transcript : List ℕ) (a b : Judgement)
    → JudgementOf settings script transcript a → JudgementOf settings script transcript b → a ≡ b
