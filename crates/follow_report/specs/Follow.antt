-- FOLLOW (document 02, Wish 1): what the program writes for the bytes of the file `rule` and for a journal that arrives in stretches, in the terms of the
-- tables of build, begin and step. And what that is to come to for the whole journal.
use Rattle.std.specs.Prelude.{◌≡◌, ℕ, ◌+◌, ◌%◌, ◌^◌, ◌<◌, ◌≤◌, List, [], ◌∷◌, ◌++◌, length, take, replicate}
use Rattle.model.specs.Answers.{BuildSays, Counted, gives}
use Rattle.model.specs.Ends.{EndsAre}
use Rattle.model.specs.Lists.{All, each}
use Rattle.model.specs.Tree.{Tree}
use Rattle.model.specs.Watch.{BeginSays, found_by, StepSays, Watched}
use Rattle.image_sections.specs.Sections.{mask_words}
use Rattle.program_lines.specs.Lines.{end_lines, refused_text, total_text}

-- what is kept between stretches: the watch's mask and place, and how many ends were found, a number of 64 bits
pub record Kept : Type 0 where
  pub mask : List ℕ
  pub place : ℕ
  pub total : ℕ

-- the program goes on with what it keeps; or it has written a refusal, and nothing comes after
pub data Next : Type 0 where
  on : Kept → Next
  stopped : Next

-- an answer of the watch in writing: a line for each end found, with which there are `total`; or the refusal
pub data Told (w : Watched) (total : ℕ) (next : Next) (text : List ℕ) : Type 0 where
  found : w.number ≡ 0 → next ≡ on (record { mask = w.lent.mask; place = w.lent.place; total = total % 2 ^ 64 }) → text ≡ end_lines (found_by w) → Told w total next text
  refused : 0 < w.number → next ≡ stopped → text ≡ refused_text w.number w.place → Told w total next text

-- "a watch that begins with an image": the line `0` where place 0 is an end
pub record Begins (words : List ℕ) (next : Next) (text : List ℕ) : Type 0 where
  pub answer : Watched
  pub says : BeginSays words (take (mask_words words) (replicate 8 0)) 0 (0 ∷ []) answer
  pub told : Told answer answer.given next text

-- OPENING, before anything of the journal is read: the rule is built, n words into those lent, which are `after` then, and a watch begun
pub data Opens (rule lent : List ℕ) (n : ℕ) (after : List ℕ) (next : Next) (text : List ℕ) : Type 0 where
  built : BuildSays rule lent (gives n after) → Begins (take n after) next text → Opens rule lent n after next text
  refused : (a : Counted) → BuildSays rule lent a → 0 < a.number → after ≡ a.lent → next ≡ stopped → text ≡ refused_text a.number a.place → Opens rule lent n after next text

-- "takes one stretch of bytes at a time", with room for 4,096 ends
pub record Hears (words : List ℕ) (kept : Kept) (stretch : List ℕ) (next : Next) (text : List ℕ) : Type 0 where
  pub answer : Watched
  pub says : StepSays words kept.mask kept.place stretch (replicate 4096 0) answer
  pub told : Told answer (kept.total + answer.given) next text

-- THE JOURNAL, stretch after stretch, and the total at its end
pub data Writes (words : List ℕ) : (stretches : List (List ℕ)) → Next → (text : List ℕ) → Type 0 where
  ended : {kept : Kept} → Writes words [] (on kept) (total_text kept.total)
  went_on : {s : List ℕ} {stretches : List (List ℕ)} {kept : Kept} {next : Next} {first rest : List ℕ} → Hears words kept s next first → Writes words stretches next rest
      → Writes words (s ∷ stretches) (on kept) (first ++ rest)
  nothing : {stretches : List (List ℕ)} → Writes words stretches stopped []

-- ALL THAT IS WRITTEN, one piece after another, with room for an image of 4,834 words
pub data FollowSays (rule : List ℕ) (stretches : List (List ℕ)) : (text : List ℕ) → Type 0 where
  follows : {n : ℕ} {after : List ℕ} {next : Next} {first rest : List ℕ} → Opens rule (replicate 4834 0) n after next first → Writes (take n after) stretches next rest
      → FollowSays rule stretches (first ++ rest)

-- ---- WHAT IT IS TO COME TO (proofs/Promise.antt)
-- a journal of at most 4,294,967,295 bytes as it arrives: "for any cutting, stretches of no bytes among them", each as long as one read may be
pub record Arrives (journal : List ℕ) (stretches : List (List ℕ)) : Type 0 where
  pub joined : each (λ s. s) stretches ≡ journal
  pub short : All (λ s. length s ≤ 4096) stretches
  pub limit : length journal ≤ 4294967295

-- a line for each of document 01's ends of the whole journal, rising, and then `total` and their number
pub record Followed (t : Tree) (journal text : List ℕ) : Type 0 where
  pub ends : List ℕ
  pub are : EndsAre t journal ends
  pub lines : text ≡ end_lines ends ++ total_text (length ends)
