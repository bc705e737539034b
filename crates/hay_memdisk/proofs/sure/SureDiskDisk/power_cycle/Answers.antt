use Rattle.std.proofs.Common.{rules}
use Rattle.std.specs.Ordering.{nat_cmp}
use Rattle.std.specs.BTreeMap.{is_at}
use Rattle.hay_memdisk.specs.Sure.{sure_files, sure_drawn}
use Rattle.hay_memdisk.proofs.Retained.{each_value, CyclesAt, none_cycles}
use Rattle.hay_memdisk.proofs.sure.SureDiskDisk.power_cycle.Goals as goal

pub returns-clause-left : goal.returns-clause-left
unfolding sure_files sure_drawn
returns-clause-left c = λ _ n. (each_value _ CyclesAt none_cycles (λ g k v b w g' t. search rules) _ _ _ c.retain.ensures.filtered (is_at (nat_cmp n))).left

pub returns-clause-solid : goal.returns-clause-solid
unfolding sure_files sure_drawn
returns-clause-solid c = λ _ n. (each_value _ CyclesAt none_cycles (λ g k v b w g' t. search rules) _ _ _ c.retain.ensures.filtered (is_at (nat_cmp n))).solid

pub returns-clause-free : goal.returns-clause-free
unfolding sure_files sure_drawn
returns-clause-free c = λ _ n. (each_value _ CyclesAt none_cycles (λ g k v b w g' t. search rules) _ _ _ c.retain.ensures.filtered (is_at (nat_cmp n))).free

pub returns-clause-drawn : goal.returns-clause-drawn
unfolding sure_files sure_drawn
returns-clause-drawn c = λ _ n. (each_value _ CyclesAt none_cycles (λ g k v b w g' t. search rules) _ _ _ c.retain.ensures.filtered (is_at (nat_cmp n))).drawn
