-- Header is what the tests of the header say; Within that every section lies within the words; OfTree that the image of a tree has the tree's places.
pub mod Header
pub mod Within
pub mod OfTree
