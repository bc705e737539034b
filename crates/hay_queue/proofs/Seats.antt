-- A pass at its desk's queue.
use Rattle.std.proofs.Common.{◌≡◌, [], ap, sym, ◌∙◌}
use Rattle.atomic_table.specs.declared.badge.Badge.{Badge}
use Rattle.crossbeam_channel.specs.Claims.{Pass, IsSeatAt, IsKeyed}
use Rattle.crossbeam_channel.specs.declared.flavors.array.Doing.{Doing}
use Rattle.crossbeam_channel.specs.declared.flavors.array.Key.{Key}
use Rattle.crossbeam_channel.specs.declared.flavors.array.Rows.{Rows}
use Rattle.hay_queue.specs.declared.message.Message.{Message}
use Rattle.hay_queue.specs.declared.rule.Knows.{Knows}
use Rattle.hay_queue.specs.Desks.{DeskId, id_of, desk_of}

module _ {J Q M L A : Type 0} (queue : Rows (Badge (Key (Message J))) (Doing (Message J) Knows) Q M (Key (Message J)) L A) (desk : DeskId J) (pass : Pass (Message J) Knows) where
  pub seated : id_of queue ≡ desk → IsKeyed queue → desk_of pass ≡ desk → pass.me.1 ≡ [] → IsSeatAt queue pass
  seated id keyed own rests = let same : desk_of pass ≡ id_of queue = own ∙ sym id in (ap (λ (d : DeskId J). d.0) same, ap (λ (d : DeskId J). d.1) same, rests, keyed)

  pub seat_of : id_of queue ≡ desk → IsSeatAt queue pass → desk_of pass ≡ desk
  seat_of id at = let same : desk_of pass ≡ id_of queue = λ i. (at.0 i, at.1 i) in same ∙ id
