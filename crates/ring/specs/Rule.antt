-- Refusals as rules in the order in which they are judged: the first that holds answers.
-- Assumes nothing.
use Rattle.std.specs.Prelude.{Bool, cond, List, [], ◌∷◌}

-- what is said when a test holds
pub record Rule (A : Type 0) : Type 0 where
  pub when : Bool
  pub says : A

abbrev pub rule : {A : Type 0} → Bool → A → Rule A
rule t v = record { when = t; says = v }

-- what the first rule says that holds, or d where none does
abbrev pub judged : {A : Type 0} → List (Rule A) → A → A
judged [] d = d
judged (r ∷ rs) d = cond r.when r.says (judged rs d)
