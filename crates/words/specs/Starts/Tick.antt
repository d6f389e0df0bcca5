-- The start table while it is made in place: match lengths, heads flagged by adding h, ticks by adding h + h, then the starts block by block.
-- Assumes nothing.
use Rattle.std.specs.Prelude.{◌≡◌, cond, List, ℕ, suc, ◌≤◌, ◌<◌, ◌+◌, ◌-◌, leb, length, take, drop, get_or}
use Rattle.words.specs.Factors.Factor.{longest, FirstRun}
use Rattle.words.specs.Repeats.Match.{MatchLength}
use Rattle.words.specs.Suffixes.Block.{Block}
use Rattle.words.specs.Starts.Start.{Chain}

-- the heads before m are flagged, and between them stand match lengths
pub data Flagged (h : ℕ) (w t : List ℕ) : ℕ → Type 0 where
  none : Flagged h w t 0
  more : {m p e : ℕ} → Flagged h w t m → m < length w → FirstRun (drop m w) p e → h ≤ get_or t m 0 → get_or t m 0 < h + h
      → ((i : ℕ) → m < i → i < m + e → MatchLength w i (get_or t i 0)) → Flagged h w t (m + e)

-- an entry without its tick
unfoldable pub untick : ℕ → ℕ → ℕ
untick h v = cond (leb (h + h) v) (v - (h + h)) v

-- v is ticked just where the first j letters of s, behind b, have their start at the head
pub data Tick (h : ℕ) (s b : List ℕ) (j v : ℕ) : Type 0 where
  yes : h + h ≤ v → Chain s b j 0 → Tick h s b j v
  no : {n : ℕ} → v < h + h → 0 < n → Chain s b j n → Tick h s b j v

-- a is what to add to an entry, to tick it or not
pub data Judged (h : ℕ) (s b : List ℕ) (j a : ℕ) : Type 0 where
  add : a ≡ h + h → Chain s b j 0 → Judged h s b j a
  leave : {n : ℕ} → a ≡ 0 → 0 < n → Chain s b j n → Judged h s b j a

-- the table t is the table o but for the entries from m to l
pub record Outside (o t : List ℕ) (m l : ℕ) : Type 0 where
  pub size : length t ≡ length o
  pub before : (i : ℕ) → i < m → get_or t i 0 ≡ get_or o i 0
  pub behind : (i : ℕ) → l ≤ i → get_or t i 0 ≡ get_or o i 0

-- before a block is ticked: match lengths stand in its word, and from m on no entry is ticked
pub record Fresh (h : ℕ) (w t : List ℕ) (m : ℕ) : Type 0 where
  pub match : (i : ℕ) → m < i → i < m + longest (drop m w) → MatchLength w i (get_or t i 0)
  pub small : (i : ℕ) → m ≤ i → i < length w → get_or t i 0 < h + h

-- a block whose entries before l are ticked; no letter of it is less than the expected one
pub record Ticking (h : ℕ) (w t : List ℕ) (m p l : ℕ) : Type 0 where
  pub block : Block w m p l
  pub tick : (i : ℕ) → m ≤ i → i < l → Tick h (drop m w) (take m w) (suc i - m) (get_or t i 0)
  pub match : (i : ℕ) → m < i → i < m + longest (drop m w) → MatchLength w i (untick h (get_or t i 0))
  pub small : (i : ℕ) → l ≤ i → i < length w → get_or t i 0 < h + h
  pub up : (i q : ℕ) → m < i → i < l → Block w m q i → get_or w (i - q) 0 ≤ get_or w i 0

-- a block goes no further than l: the word ends there, or a lesser letter stands there
abbrev pub Ends : List ℕ → ℕ → ℕ → Type 0
Ends w p l = l < length w → get_or w l 0 < get_or w (l - p) 0

-- the whole block is ticked, up to l
pub record Ticked (h : ℕ) (w t : List ℕ) (m l : ℕ) : Type 0 where
  pub period : ℕ
  pub ticking : Ticking h w t m period l
  pub ends : Ends w period l

-- the entries from m to l are those that the block gives
pub record Started (w o t : List ℕ) (m l : ℕ) : Type 0 where
  pub above : (i : ℕ) → m ≤ i → i < l → m ≤ get_or t i 0
  pub below : (i : ℕ) → m ≤ i → i < l → get_or t i 0 ≤ i
  pub entry : (i : ℕ) → m ≤ i → i < l → Chain (drop m w) (take m w) (suc i - m) (get_or t i 0 - m)
  pub outside : Outside o t m l

-- the whole block is filled, up to l
pub record Done (w o t : List ℕ) (m l : ℕ) : Type 0 where
  pub period : ℕ
  pub block : Block w m period l
  pub ends : Ends w period l
  pub started : Started w o t m l
