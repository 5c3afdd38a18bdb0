mod Drawing
mod LeastFound
mod PlacedItems
mod NextRows
mod LeastLinks
