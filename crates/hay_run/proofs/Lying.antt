-- Behind each text of what stands alone every place of a photo that is seen lies within the cells of its replica.
use Rattle.std.proofs.Common.{inl, inr, ℕ, List, [], ◌∷◌, sym, subst}
use Rattle.std.specs.Prelude.{Bool}
use Rattle.std.specs.List.{AllByRecursion}
use Rattle.hay_needle.specs.declared.settings.Settings.{Settings}
use Rattle.hay_legal.specs.declared.turn.Item.TheVariants as item
use Rattle.hay_legal.specs.Items.{Asked}
use Rattle.hay_legal.specs.Items.Asked.{Alone, Block}
use Rattle.hay_legal.specs.Stands.{Outside}
use Rattle.hay_legal.specs.Statuses.{Ending}
use Rattle.hay_cluster.specs.Seen.{PlacesLie}
use Rattle.hay_cluster.proofs.Lying.{places_lie}
use Rattle.hay_run.specs.Causing.{AnswerTexts, IsTextOf, OpenedText, Tally, plain_tag}

-- it is no block
abbrev pub StandsAlone : Asked → Type 0
StandsAlone (Alone number asked) = Unit {0}
StandsAlone (Block lines) = ⊥

module _ (Tells : Type 0) (settings : Settings) where
  text_lies : (before after : Tally) (asked : Asked) (text : List ℕ) → StandsAlone asked → IsTextOf Tells settings before after asked text → PlacesLie before.seen → PlacesLie after.seen
  text_lies before after (Alone number (item.Command command)) text alone (fuses, inl restart) lie = (restart.7).lie
  text_lies before after (Alone number (item.Command command)) text alone (fuses, inr told) lie =
      places_lie settings (plain_tag number) before.seen after.seen command told.said told.answers told.sights lie
  text_lies before after (Alone number item.Bad) text alone (same, is) lie = subst (λ (t : Tally). PlacesLie t.seen) (sym same) lie
  text_lies before after (Block lines) text alone told lie = absurd alone

  -- so it is behind one text after another
  pub texts_lie : (before after : Tally) (asked : List Asked) (text : List ℕ) → AllByRecursion StandsAlone asked → AnswerTexts Tells settings before after asked text
      → PlacesLie before.seen → PlacesLie after.seen
  texts_lie before after [] text alone (none, same) lie = subst (λ (t : Tally). PlacesLie t.seen) (sym same) lie
  texts_lie before after (asked ∷ others) text alone told lie =
      texts_lie told.0 after others told.2 alone.1 told.6 (text_lies before told.0 asked told.1 alone.0 told.5 lie)

  -- and behind those of a run that opened a store, and read no block
  pub opened_lies : (ending : Ending) (script read : List ℕ) (taken given : Outside) (sure : ℕ → Bool) (text : List ℕ) (opened : OpenedText Tells settings ending script read taken given sure text)
      → AllByRecursion StandsAlone opened.whole → PlacesLie (opened.mid).seen
  opened_lies ending script read taken given sure text opened alone =
      texts_lie opened.old opened.mid opened.whole opened.answered alone opened.answers (((opened.begins).seen).lie)
