-- Promise: what is written for a whole journal. Laws: what it rests on.
pub mod Promise
pub mod Laws
