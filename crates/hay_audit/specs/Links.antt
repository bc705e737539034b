-- The URL of a pair.
use Rattle.std.specs.Prelude.{ℕ, ◌==◌, ◌&&◌, ◌%◌, Bool, length}
use Rattle.hay_needle.specs.declared.needle.Pair.{Pair}
use Rattle.hay_needle.specs.declared.settings.Settings.{Settings}
use Rattle.hay_needle.specs.Tables.{pair_eq}
use Rattle.hay_url.specs.declared.Url.{Url}
use Rattle.hay_url.specs.Url.{cookie_of}
use Rattle.hay_legal.specs.declared.known.Known.{Known}
use Rattle.hay_legal.specs.Known.{home_of, machine_of}
use Rattle.hay_audit_steps.specs.Next as next

-- what a line of this number is told of it, and of the number of rows
abbrev pub is_url : Settings → Known → ℕ → Pair → ℕ → Url → Bool
is_url settings b line pair d url =
    next.is_at (home_of b pair) url.volume && (pair_eq url.pair pair && (next.cookie_eq url.cookie (cookie_of settings.secret pair.key)
    && ((url.machine == machine_of settings url.volume (line % settings.replicas)) && (d == length b.directory.rows))))
