mod Rows
mod SessionRows
mod RunRows
