-- The sections of an assembled image: taking it apart finds each set again, and its length is what document 01 says.
use mathlib.Core.Path.{◌≡◌, refl, ap, ◌∙◌}
use mathlib.Core.Bool.{Bool}
use mathlib.Core.List.{List, ◌++◌}
use Prim.Native.Nat.{ℕ, suc, ◌*◌, ◌≤◌, ◌<◌}
use native.Mathlib.Nat.{mul_comm}
use native.Mathlib.Omega.{arith}
use lib.ListN.{length, length-append}
use Rattle.model.specs.Bits.{bit}
use Rattle.model.specs.Image.{join, section}
use Rattle.model.specs.Models.Sections.{back_in, bit_of, bit_of_three, bit_of_two, chunk, gather_at, gather_in, image_length, letters_at, letters_in, propagate_at, propagate_in, repeats_at, repeats_in, scatter_at, scatter_in}
use Rattle.model.specs.Models.LayOut.{assemble, back-source, back-target, block_of, gather-block, gather-source, gather-target, scatter-block, scatter-source, scatter-target, set, source_of, target_of, three, two, Plane}
use Rattle.model.specs.Models.Words.{value}
use Rattle.model.proofs.Image.Rows.{chunk_join, chunk_join_end, length_join, length-set, length_three, length_two, past_section, set_bit, three_0, three_1, three_2, two_0, wide}

module _ (m W d : ℕ) (L R : ℕ → ℕ → Bool) (B : Plane → ℕ → ℕ → Bool) where
  abbrev all : List ℕ
  all = assemble m W d L R B

  -- ---- the words of one byte, or of one depth
  abbrev pub letter_words_at : ℕ → List ℕ
  letter_words_at b = set m W (L b)

  abbrev pub loop_words_at : ℕ → List ℕ
  loop_words_at b = set m W (R b)

  abbrev pub scatter_words_at : ℕ → List ℕ
  scatter_words_at k = three m W (B scatter-block k) (B scatter-source k) (B scatter-target k)

  abbrev pub gather_words_at : ℕ → List ℕ
  gather_words_at k = three m W (B gather-block k) (B gather-source k) (B gather-target k)

  abbrev pub propagate_words_at : ℕ → List ℕ
  propagate_words_at k = three m W (block_of B k) (source_of B k) (target_of B k)

  abbrev pub back_words_at : ℕ → List ℕ
  back_words_at k = two m W (B back-source k) (B back-target k)

  letter_length : (b : ℕ) → length (letter_words_at b) ≡ W
  letter_length b = length-set m W (L b)

  loop_length : (b : ℕ) → length (loop_words_at b) ≡ W
  loop_length b = length-set m W (R b)

  scatter_length : (k : ℕ) → length (scatter_words_at k) ≡ 3 * W
  scatter_length k = length_three m W (B scatter-block k) (B scatter-source k) (B scatter-target k)

  gather_length : (k : ℕ) → length (gather_words_at k) ≡ 3 * W
  gather_length k = length_three m W (B gather-block k) (B gather-source k) (B gather-target k)

  propagate_length : (k : ℕ) → length (propagate_words_at k) ≡ 3 * W
  propagate_length k = length_three m W (block_of B k) (source_of B k) (target_of B k)

  back_length : (k : ℕ) → length (back_words_at k) ≡ 2 * W
  back_length k = length_two m W (B back-source k) (B back-target k)

  -- ---- the words of each section
  abbrev pub letter_rows : List ℕ
  letter_rows = join 256 0 letter_words_at

  abbrev pub loop_rows : List ℕ
  loop_rows = join 256 0 loop_words_at

  abbrev pub scatter_rows : List ℕ
  scatter_rows = join d 0 scatter_words_at

  abbrev pub gather_rows : List ℕ
  gather_rows = join d 0 gather_words_at

  abbrev pub propagate_rows : List ℕ
  propagate_rows = join (suc d) 0 propagate_words_at

  abbrev pub back_rows : List ℕ
  back_rows = join d 0 back_words_at

  pub letters_length : length letter_rows ≡ 256 * W
  letters_length = length_join W letter_words_at letter_length 256 0 ∙ mul_comm W 256

  pub loops_length : length loop_rows ≡ 256 * W
  loops_length = length_join W loop_words_at loop_length 256 0 ∙ mul_comm W 256

  pub scatters_length : length scatter_rows ≡ 3 * W * d
  scatters_length = length_join (3 * W) scatter_words_at scatter_length d 0

  pub gathers_length : length gather_rows ≡ 3 * W * d
  gathers_length = length_join (3 * W) gather_words_at gather_length d 0

  pub propagates_length : length propagate_rows ≡ 3 * W * suc d
  propagates_length = length_join (3 * W) propagate_words_at propagate_length (suc d) 0

  pub backs_length : length back_rows ≡ 2 * W * d
  backs_length = length_join (2 * W) back_words_at back_length d 0

  -- ---- what follows each section
  abbrev pub after_propagate : List ℕ
  after_propagate = section back_rows

  abbrev pub after_gather : List ℕ
  after_gather = section propagate_rows ++ after_propagate

  abbrev pub after_scatter : List ℕ
  after_scatter = section gather_rows ++ after_gather

  abbrev pub after_repeats : List ℕ
  after_repeats = section scatter_rows ++ after_scatter

  abbrev pub after_letters : List ℕ
  after_letters = section loop_rows ++ after_repeats

  -- ---- each section is found
  pub repeats_found : repeats_in all ≡ loop_rows ++ after_repeats
  repeats_found = past_section all letter_rows (loop_rows ++ after_repeats) letters_at (256 * W) (length loop_rows) refl letters_length

  pub scatter_found : scatter_in all ≡ scatter_rows ++ after_scatter
  scatter_found = past_section all loop_rows (scatter_rows ++ after_scatter) (repeats_at W) (256 * W) (length scatter_rows) repeats_found loops_length

  pub gather_found : gather_in all ≡ gather_rows ++ after_gather
  gather_found = past_section all scatter_rows (gather_rows ++ after_gather) (scatter_at W) (3 * W * d) (length gather_rows) scatter_found scatters_length

  pub propagate_found : propagate_in all ≡ propagate_rows ++ after_propagate
  propagate_found =
      past_section all gather_rows (propagate_rows ++ after_propagate) (gather_at W d) (3 * W * d) (length propagate_rows) gather_found gathers_length

  back_found : back_in all ≡ back_rows
  back_found = past_section all propagate_rows back_rows (propagate_at W d) (3 * W * suc d) (length back_rows) propagate_found propagates_length

  -- ---- and in it each part
  pub part_letters : (b : ℕ) → b < 256 → chunk W b (letters_in all) ≡ letter_words_at b
  part_letters b h = chunk_join W letter_words_at letter_length 256 b after_letters h

  pub part_repeats : (b : ℕ) → b < 256 → chunk W b (repeats_in all) ≡ loop_words_at b
  part_repeats b h = ap (chunk W b) repeats_found ∙ chunk_join W loop_words_at loop_length 256 b after_repeats h

  pub part_scatter : (k : ℕ) → k < d → chunk (3 * W) k (scatter_in all) ≡ scatter_words_at k
  part_scatter k h = ap (chunk (3 * W) k) scatter_found ∙ chunk_join (3 * W) scatter_words_at scatter_length d k after_scatter h

  pub part_gather : (k : ℕ) → k < d → chunk (3 * W) k (gather_in all) ≡ gather_words_at k
  part_gather k h = ap (chunk (3 * W) k) gather_found ∙ chunk_join (3 * W) gather_words_at gather_length d k after_gather h

  pub part_propagate : (k : ℕ) → k < suc d → chunk (3 * W) k (propagate_in all) ≡ propagate_words_at k
  part_propagate k h = ap (chunk (3 * W) k) propagate_found ∙ chunk_join (3 * W) propagate_words_at propagate_length (suc d) k after_propagate h

  pub part_back : (k : ℕ) → k < d → chunk (2 * W) k (back_in all) ≡ back_words_at k
  part_back k h = ap (chunk (2 * W) k) back_found ∙ chunk_join_end (2 * W) back_words_at back_length d k h

  -- ---- and in that each bit that taking apart looks at
  module _ (room : m ≤ wide W) where
    pub read_letters : (b x : ℕ) → b < 256 → x < m → bit_of W (letters_in all) b x ≡ L b x
    read_letters b x h l = ap (λ (ws : List ℕ). bit (value ws) x) (part_letters b h) ∙ set_bit m W (L b) room x l

    pub read_repeats : (b x : ℕ) → b < 256 → x < m → bit_of W (repeats_in all) b x ≡ R b x
    read_repeats b x h l = ap (λ (ws : List ℕ). bit (value ws) x) (part_repeats b h) ∙ set_bit m W (R b) room x l

    pub read_scatter_source : (k x : ℕ) → k < d → x < m → bit_of_three W (scatter_in all) 1 k x ≡ B scatter-source k x
    read_scatter_source k x h l =
        ap (λ (ws : List ℕ). bit (value ws) x) (ap (chunk W 1) (part_scatter k h) ∙ three_1 m W (B scatter-block k) (B scatter-source k) (B scatter-target k))
        ∙ set_bit m W (B scatter-source k) room x l

    pub read_gather_target : (k x : ℕ) → k < d → x < m → bit_of_three W (gather_in all) 2 k x ≡ B gather-target k x
    read_gather_target k x h l =
        ap (λ (ws : List ℕ). bit (value ws) x) (ap (chunk W 2) (part_gather k h) ∙ three_2 m W (B gather-block k) (B gather-source k) (B gather-target k))
        ∙ set_bit m W (B gather-target k) room x l

    pub read_propagate_block : (k x : ℕ) → k < suc d → x < m → bit_of_three W (propagate_in all) 0 k x ≡ block_of B k x
    read_propagate_block k x h l =
        ap (λ (ws : List ℕ). bit (value ws) x) (ap (chunk W 0) (part_propagate k h) ∙ three_0 m W (block_of B k) (source_of B k) (target_of B k))
        ∙ set_bit m W (block_of B k) room x l

    pub read_propagate_source : (k x : ℕ) → k < suc d → x < m → bit_of_three W (propagate_in all) 1 k x ≡ source_of B k x
    read_propagate_source k x h l =
        ap (λ (ws : List ℕ). bit (value ws) x) (ap (chunk W 1) (part_propagate k h) ∙ three_1 m W (block_of B k) (source_of B k) (target_of B k))
        ∙ set_bit m W (source_of B k) room x l

    pub read_back_source : (k x : ℕ) → k < d → x < m → bit_of_two W (back_in all) 0 k x ≡ B back-source k x
    read_back_source k x h l =
        ap (λ (ws : List ℕ). bit (value ws) x) (ap (chunk W 0) (part_back k h) ∙ two_0 m W (B back-source k) (B back-target k))
        ∙ set_bit m W (B back-source k) room x l

  pub length_assembled : length all ≡ image_length W d
  length_assembled =
      omega (
        arith,
        length-append (section letter_rows) after_letters,
        length-append (section loop_rows) after_repeats,
        length-append (section scatter_rows) after_scatter,
        length-append (section gather_rows) after_gather,
        length-append (section propagate_rows) after_propagate,
        letters_length,
        loops_length,
        scatters_length,
        gathers_length,
        propagates_length,
        backs_length,
      )
