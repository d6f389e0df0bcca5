-- A record in plain form, and its text: ">a\nAC\r\nG\n".
-- Assumes nothing.
use mathlib.Core.Path.{◌≡◌, refl}
use mathlib.Core.List.{[], ◌∷◌}
use native.Mathlib.Omega.{arith}
use Rattle.ring.specs.Judging.{Permitted}
use Rattle.ring.proofs.Exactly.{good_at}
use Rattle.fasta.specs.Lines.{lf, cr, line}
use Rattle.fasta.specs.Answers.{base_kind}
use Rattle.fasta.specs.Demands.{by_lf, by_cr-lf, Every}
use Rattle.fasta.specs.Walks.{Plain, plain_text, plain_items}

pub bases : Permitted base_kind (65 ∷ 67 ∷ 71 ∷ [])
bases = record { kinds = refl; some = omega arith; within = omega arith; letters = good_at base_kind (65 ∷ 67 ∷ 71 ∷ []) (omega arith) }

abbrev pub two_rows : Plain
two_rows = record {
  header = 97 ∷ [];
  ending = lf ∷ [];
  lines = line (65 ∷ 67 ∷ []) (cr ∷ lf ∷ []) ∷ line (71 ∷ []) (lf ∷ []) ∷ [];
  whole = record { end = by_lf; within = refl; seam = λ q. refl };
  rows = Every.more (record { is = by_cr-lf }) (Every.more (record { is = by_lf }) Every.none);
  permitted = bases;
}

pub two_rows_text : plain_text (two_rows ∷ []) ≡ 62 ∷ 97 ∷ 10 ∷ 65 ∷ 67 ∷ 13 ∷ 10 ∷ 71 ∷ 10 ∷ []
two_rows_text = refl

pub two_rows_item : plain_items (two_rows ∷ []) ≡ record { header = 97 ∷ []; number = 0; place = 0; letters = 65 ∷ 67 ∷ 71 ∷ [] } ∷ []
two_rows_item = refl
